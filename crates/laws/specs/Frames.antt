-- What an end-of-frame mark does, once a clock, wherever it stands among the values moved.
use Rattle.std.specs.Prelude.{ℕ, ◌≤◌, ◌<◌, ◌≡◌, true, false, List, length, get_or, take}
use Rattle.laws.specs.Types.{Signal, signal}
use Rattle.rules.specs.Record.{State, stored}
use Rattle.rules.specs.Parts.{no_burst, no_load}
use Rattle.rules.specs.Refusals.{refusal}
use Rattle.rules.specs.Step.{Outcome, step}
use Rattle.laws.specs.Moved.{Clocked, ReadyToMove}

-- one of the values has bit 16, their highest
pub record AnyEof (vs : List ℕ) : Type 0 where
  pub index : ℕ
  pub inside : index < length vs
  pub marked : 0x10000 ≤ get_or vs index 0

-- 01: "Then, if any carried EOF, once: a burst ends; opened becomes closed; else pending becomes opened."
pub record FrameEnd (s : State) (o : Outcome) : Type 0 where
  -- "a burst ends"
  pub burst : AnyEof (take o.answer.moved (stored s)) → o.state.board.core.burst ≡ no_burst
  -- "opened becomes closed"
  pub closes : AnyEof (take o.answer.moved (stored s)) → s.board.core.load.opened ≡ true → o.state.board.core.load ≡ no_load
  -- "else pending becomes opened"
  pub opens : AnyEof (take o.answer.moved (stored s))
      → s.board.core.load.opened ≡ false
      → s.board.core.load.pending ≡ true
      → o.state.board.core.load ≡ record { pending = false; opened = true }
  pub unasked : AnyEof (take o.answer.moved (stored s))
      → s.board.core.load.opened ≡ false
      → s.board.core.load.pending ≡ false
      → o.state.board.core.load ≡ no_load
  -- and nothing without one
  pub within : ¬ AnyEof (take o.answer.moved (stored s))
      → (o.state.board.core.burst ≡ s.board.core.burst) × (o.state.board.core.load ≡ s.board.core.load)

abbrev pub Clock-frame : Type 0
Clock-frame =
    (s : State) (x : Signal)
    → refusal s (signal x) ≡ 0
    → Clocked x s.board
    → ReadyToMove s
    → FrameEnd s (step s (signal x))
