-- After an accepted power-up no event is stopped by 2 or 3.
use Prim.Native.Nat.{ℕ, ◌<◌}
use mathlib.Core.Path.{◌≡◌, sym, ◌∙◌}
use mathlib.Core.List.{List, [], ◌∷◌}
use native.Mathlib.Omega.{arith}
use lib.ListN.{length}
use Rattle.laws.specs.Types.{Settings, Event, power_up, write, read, signal}
use Rattle.rules.specs.Record.{State, depth_of}
use Rattle.rules.specs.Step.{step}
use Rattle.rules.specs.Laws.Soundness.{Stands}
use Rattle.rules.specs.Laws.Refusals.{Ordinary, Given, short_for_power_up, short, unsound}
use Rattle.laws.specs.NeverStopped.{NeverStopped, AllNeverStopped, Run-never-stopped}
use Rattle.rules.proofs.Steps.{refusal_answered}
use Rattle.rules.proofs.Refusals.{refusal_exactly}
use Rattle.laws.proofs.Lasting.{stands_kept, stands_given}

never_three : (s : State) {e : Event} → Stands s → Given s e 3 → ⊥
never_three s h (unsound o k) = k h.sound

two_at_power_up : (s : State) {e : Event} → Stands s → Given s e 2 → Ordinary e → ⊥
two_at_power_up s h (short_for_power_up r l) o = o
two_at_power_up s h (short _ _ l) o = omega (arith, h.enough)

two_shorter : (s : State) (x : Settings) → Given s (power_up x) 2 → length s.memory < depth_of x.fitted
two_shorter s x (short_for_power_up r l) = l
two_shorter s x (short o _ l) = absurd o

given_of : (s : State) (e : Event) (n : ℕ) → (step s e).answer.refusal ≡ n → Given s e n
given_of s e n h = (refusal_exactly s e n).0 (sym (refusal_answered s e) ∙ h)

never_stopped : (s : State) (e : Event) → Stands s → NeverStopped s.memory e (step s e)
never_stopped s (power_up x) h =
    (λ z. never_three s h (given_of s (power_up x) 3 z), λ z. two_shorter s x (given_of s (power_up x) 2 z))
never_stopped s (write a v) h =
    (λ z. never_three s h (given_of s (write a v) 3 z), λ z. two_at_power_up s h (given_of s (write a v) 2 z) tt)
never_stopped s (read a) h =
    (λ z. never_three s h (given_of s (read a) 3 z), λ z. two_at_power_up s h (given_of s (read a) 2 z) tt)
never_stopped s (signal x) h =
    (λ z. never_three s h (given_of s (signal x) 3 z), λ z. two_at_power_up s h (given_of s (signal x) 2 z) tt)

all_never_stopped : (s : State) (es : List Event) → Stands s → AllNeverStopped s es
unfolding AllNeverStopped
all_never_stopped s [] h = tt
all_never_stopped s (e ∷ es) h = (never_stopped s e h, all_never_stopped (step s e).state es (stands_kept s e h))

pub run_never_stopped : Run-never-stopped
run_never_stopped s x es h = all_never_stopped _ es (stands_given s x h)
