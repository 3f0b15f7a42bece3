-- The premises of demand 3 as tests, so that they are shown of a run by computation.
use Prim.Native.Nat.{ℕ}
use mathlib.Core.Path.{◌≡◌}
use mathlib.Core.Bool.{Bool, true, not, ◌&&◌}
use mathlib.Core.List.{List, [], ◌∷◌}
use borrow.Author.Tests.{eqb-true, eqb-false, not-true}
use lib.Dec.{eqb}
use Rattle.rules.specs.declared.Event.{Event}
use Rattle.rules.specs.declared.Event.TheVariants.{PowerUp as power_up, Write as write, Read as read, Signal as signal}
use Rattle.rules.specs.Record.{State}
use Rattle.rules.specs.Step.{step}
use Rattle.demand3.specs.Demand3.{PowerUpAccepted, PowerUpsAccepted, NothingLost, loses_nothing, NoQuarter, NoQuarters}
use Rattle.rules.proofs.Choice.{and_both}
use Rattle.rules.proofs.Open.{rules_open}
use Rattle.demand3.proofs.Lossless.{lossless_test}

unfoldable pub unstopped : Event → ℕ → Bool
unstopped (power_up x) n = eqb n 0
unstopped (write a v) n = true
unstopped (read a) n = true
unstopped (signal x) n = true

unfoldable pub all_accepted : State → List Event → Bool
all_accepted s [] = true
all_accepted s (e ∷ es) = unstopped e (step s e).answer.refusal && all_accepted (step s e).state es

accepted_one : (s : State) (e : Event) → unstopped e (step s e).answer.refusal ≡ true → PowerUpAccepted e (step s e)
unfolding unstopped
accepted_one s (power_up x) h = eqb-true _ _ h
accepted_one s (write a v) h = tt
accepted_one s (read a) h = tt
accepted_one s (signal x) h = tt

pub accepted_all : (s : State) (es : List Event) → all_accepted s es ≡ true → PowerUpsAccepted s es
unfolding all_accepted PowerUpsAccepted
accepted_all s [] h = tt
accepted_all s (e ∷ es) h =
    let t = and_both (unstopped e (step s e).answer.refusal) (all_accepted (step s e).state es) h in
    (accepted_one s e t.0, accepted_all (step s e).state es t.1)

pub lossless_all : (s : State) (es : List Event) → loses_nothing s es ≡ true → NothingLost s es
lossless_all s es = (lossless_test s es).0

unfoldable pub unselected : State → Bool
unselected s = not (eqb s.board.core.control.selection 3) && not (eqb s.board.core.control.selection 4)

unfoldable pub none_selected : State → List Event → Bool
none_selected s [] = unselected s
none_selected s (e ∷ es) = unselected s && none_selected (step s e).state es

quarter_none : (s : State) → unselected s ≡ true → NoQuarter s
unfolding unselected
quarter_none s h =
    let t = and_both (not (eqb s.board.core.control.selection 3)) (not (eqb s.board.core.control.selection 4)) h in
    record { low = eqb-false _ _ (not-true _ t.0); high = eqb-false _ _ (not-true _ t.1) }

pub quarters_none : (s : State) (es : List Event) → none_selected s es ≡ true → NoQuarters s es
unfolding none_selected NoQuarters
quarters_none s [] h = quarter_none s h
quarters_none s (e ∷ es) h =
    let t = and_both (unselected s) (none_selected (step s e).state es) h in
    (quarter_none s t.0, quarters_none (step s e).state es t.1)

-- "every rule and every test unfolds here"
unfoldable pub tests_open : Unit {0}
unfolding unstopped all_accepted loses_nothing unselected none_selected rules_open
tests_open = tt
