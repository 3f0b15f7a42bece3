-- After an accepted power-up no event is refused 2 or 3.
use Rattle.std.specs.Prelude.{ℕ, ◌<◌, ◌≡◌, ◌≢◌, List, [], ◌∷◌, length}
use Rattle.laws.specs.Types.{Settings, Event, power_up, write, read, signal}
use Rattle.rules.specs.Record.{State, depth_of}
use Rattle.rules.specs.Step.{Outcome, step}

-- never 3; 2 only a power-up that asks for more than the memory holds
abbrev pub NeverStopped : List ℕ → Event → Outcome → Type 0
NeverStopped memory (power_up x) o = (o.answer.refusal ≢ 3) × (o.answer.refusal ≡ 2 → length memory < depth_of x.fitted)
NeverStopped memory (write a v) o = (o.answer.refusal ≢ 3) × (o.answer.refusal ≢ 2)
NeverStopped memory (read a) o = (o.answer.refusal ≢ 3) × (o.answer.refusal ≢ 2)
NeverStopped memory (signal x) o = (o.answer.refusal ≢ 3) × (o.answer.refusal ≢ 2)

unfoldable pub AllNeverStopped : State → List Event → Type 0
AllNeverStopped s [] = Unit {0}
AllNeverStopped s (e ∷ es) = NeverStopped s.memory e (step s e) × AllNeverStopped (step s e).state es

abbrev pub Run-never-stopped : Type 0
Run-never-stopped =
    (s : State) (x : Settings) (es : List Event)
    → (step s (power_up x)).answer.refusal ≡ 0
    → AllNeverStopped (step s (power_up x)).state es
