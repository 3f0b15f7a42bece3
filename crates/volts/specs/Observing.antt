-- What one event makes of the board, the memory and the table; and the answer of a session, of which the table is held apart.
use Rattle.std.specs.Prelude.{ℕ, ◌≡◌, false, List, Result, Ok, Err}
use Rattle.rules.specs.declared.Event.{Event}
use Rattle.rules.specs.Record.{state_of}
use Rattle.rules.specs.Step.{step}
use Rattle.volt_rules.specs.Counting.{Counted, starts_afresh, count_event}
use Rattle.volt_rules.specs.declared.Extremes.{Extremes}
use Rattle.volts.specs.declared.refusal.VoltRefusal.{VoltRefusal}
use Rattle.volts.specs.declared.running.Observed.{Observed}
use Rattle.volts.specs.Watching.{held, seen_of, SameRange}

pub record Observes (o : Observed) (m : List ℕ) (e : Event) (r : Observed) (m' : List ℕ) : Type 0 where
  pub board : r.board ≡ (step (state_of o.board m) e).state.board
  pub memory : m' ≡ (step (state_of o.board m) e).state.memory
  -- whatever counted before, in the range that the record has
  pub channels : (w : Counted) → held o ≡ seen_of w
      → (starts_afresh e (step (state_of o.board m) e) ≡ false → SameRange w (step (state_of o.board m) e).state.board)
      → held r ≡ seen_of (count_event e (step (state_of o.board m) e) w)

-- the answer with the channels that are held after the session
abbrev pub with_channels : Result (Unit {0}) VoltRefusal → List Extremes → Result (List Extremes) VoltRefusal
with_channels (Ok _) xs = Ok xs
with_channels (Err why) xs = Err why
