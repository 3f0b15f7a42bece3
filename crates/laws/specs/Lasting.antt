-- Soundness lasts.
--   InRun s    the states of a run: not powered, or sound over enough memory
use Rattle.std.specs.Prelude.{ℕ, ◌≡◌, List, true}
use Rattle.laws.specs.Types.{Settings, Event, power_up}
use Rattle.rules.specs.Record.{State, start}
use Rattle.rules.specs.Step.{step}
use Rattle.rules.specs.Laws.Soundness.{Stands}

-- Every event keeps a sound record over enough memory.
abbrev pub Stands-kept : Type 0
Stands-kept =
    (s : State) (e : Event)
    → Stands s
    → Stands (step s e).state

-- Every accepted power-up gives one, whatever the old record was.
abbrev pub Stands-given : Type 0
Stands-given =
    (s : State) (x : Settings)
    → (step s (power_up x)).answer.refusal ≡ 0
    → Stands (step s (power_up x)).state

-- ---- The states of a run

abbrev pub InRun : State → Type 0
InRun s = s.board.core.powered ≡ true → Stands s

-- 01: "A run starts unpowered"
abbrev pub InRun-start : Type 0
InRun-start = (m : List ℕ) → InRun (start m)

abbrev pub InRun-kept : Type 0
InRun-kept =
    (s : State) (e : Event)
    → InRun s
    → InRun (step s e).state
