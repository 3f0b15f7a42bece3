-- A run loses nothing to a full buffer exactly when the test says so.
use Prim.Native.Nat.{ℕ, zero, suc}
use mathlib.Core.Path.{◌≡◌, refl, ap}
use mathlib.Core.Bool.{true, not}
use mathlib.Core.List.{List, [], ◌∷◌}
use borrow.Author.Tests.{eqb-false, not-true, ne_eqb}
use lib.ListN.{take}
use Rattle.rules.specs.declared.Event.{Event}
use Rattle.rules.specs.Record.{State}
use Rattle.rules.specs.Step.{step}
use Rattle.rules.proofs.Choice.{and_both, both_and}
use Rattle.demand3.specs.Demand3.{NothingLost, loses_nothing, Lossless-test}

tested : (s : State) (es : List Event) → loses_nothing s es ≡ true → NothingLost s es
unfolding loses_nothing NothingLost
tested s [] h = tt
tested s (e ∷ es) h =
    let t = and_both _ _ h in
    (eqb-false _ 2 (not-true _ t.0), tested (step s e).state es t.1)

lossless : (s : State) (es : List Event) → NothingLost s es → loses_nothing s es ≡ true
unfolding loses_nothing NothingLost
lossless s [] h = refl
lossless s (e ∷ es) h = both_and _ _ (ap not (ne_eqb _ 2 h.0)) (lossless (step s e).state es h.1)

pub lossless_test : Lossless-test
lossless_test s es = (tested s es, lossless s es)

-- and so does each beginning of it
pub lossless_take : (n : ℕ) (s : State) (es : List Event) → NothingLost s es → NothingLost s (take n es)
unfolding NothingLost
lossless_take zero s es h = tt
lossless_take (suc n) s [] h = tt
lossless_take (suc n) s (e ∷ es) h = (h.0, lossless_take n _ es h.1)
