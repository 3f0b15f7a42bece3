-- One event: refused, or done; and how many values are stored.
use Prim.Native.Nat.{ℕ, zero, suc, ◌+◌, ◌%◌}
use mathlib.Core.Path.{◌≡◌, refl, sym, ap}
use mathlib.Core.Logic.{◌≢◌}
use mathlib.Core.Bool.{Bool, true, false, cond}
use mathlib.Core.List.{List}
use borrow.Author.Tests.{eqb-true}
use lib.Dec.{eqb}
use lib.ListN.{length}
use Rattle.rules.specs.Types.{Event}
use Rattle.rules.specs.Record.{State, depth, values, stored}
use Rattle.rules.specs.Refusals.{refusal}
use Rattle.rules.specs.Step.{Outcome, refused, done, step}
use Rattle.rules.specs.Laws.Refusals.{Refusal-answered}

-- ---- Done or refused

pub step_done : (s : State) (e : Event) → refusal s e ≡ 0 → step s e ≡ done s e
unfolding step
step_done s e h = rw h

pub step_refused : (s : State) (e : Event) → eqb (refusal s e) 0 ≡ false → step s e ≡ refused (refusal s e) s
unfolding step
step_refused s e h = rw h

-- to show a fact of every event, show it of the done and of the refused
pub step_cases {κ} : (P : Outcome → Type κ) (s : State) (e : Event)
    → (refusal s e ≡ 0 → P (done s e)) → (refusal s e ≢ 0 → P (refused (refusal s e) s)) → P (step s e)
unfolding step
step_cases P s e f g = go (eqb (refusal s e) 0) refl
  where
    go : (t : Bool) → eqb (refusal s e) 0 ≡ t → P (cond t (done s e) (refused (refusal s e) s))
    go true h = f (eqb-true (refusal s e) 0 h)
    go false h = g (λ z. unequal z)
      where
        unequal : refusal s e ≡ 0 → ⊥
        unequal = borrow.Author.Tests.eqb-false (refusal s e) 0 h

pub refusal_answered : Refusal-answered
unfolding done refused
refusal_answered s e = step_cases (λ o. o.answer.refusal ≡ refusal s e) s e (λ h. sym h) (λ h. refl)

-- ---- How many values are stored

pub length_values : (d f c : ℕ) (m : List ℕ) → length (values d f c m) ≡ c
unfolding values
length_values d f zero m = refl
length_values d f (suc c) m = ap suc (length_values d ((f + 1) % d) c m)

pub stored_length : (s : State) → length (stored s) ≡ s.board.ring.count
unfolding stored
stored_length s = length_values (depth s.board) s.board.ring.first s.board.ring.count s.memory
