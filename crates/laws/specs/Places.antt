-- Where values stand, and which entries of the sample memory an event may change.
use Rattle.std.specs.Prelude.{ℕ, ◌+◌, ◌%◌, ◌≤◌, ◌<◌, ◌≡◌, ◌≢◌, ◌⊎◌, length, get_or}
use Rattle.laws.specs.Types.{Settings, Event, power_up, write, signal, Signal}
use Rattle.rules.specs.Record.{State, depth, stored, value_span}
use Rattle.rules.specs.Refusals.{refusal}
use Rattle.rules.specs.Step.{Outcome, step}
use Rattle.rules.specs.Laws.Soundness.{Stands}
use Rattle.rules.specs.Laws.Closed.{Closed}
use Rattle.laws.specs.Moved.{Clocked, ReadyToMove}

abbrev pub entry : State → ℕ → ℕ
entry s i = get_or s.memory i 0

-- The i-th stored value stands i places on from `first`, mod depth.
abbrev pub Stored-at : Type 0
Stored-at =
    (s : State) (i : ℕ)
    → Stands s
    → i < length (stored s)
    → get_or (stored s) i 0 ≡ entry s ((s.board.ring.first + i) % depth s.board) % value_span

abbrev pub Stored-length : Type 0
Stored-length = (s : State) → length (stored s) ≡ s.board.ring.count

-- 01: "A value is stored at (first + count) mod depth." The other entries stay.
pub record StoredThere (s : State) (v : ℕ) (o : Outcome) : Type 0 where
  pub first : o.state.board.ring.first ≡ s.board.ring.first
  pub count : o.state.board.ring.count ≡ s.board.ring.count + 1
  pub there : entry o.state ((s.board.ring.first + s.board.ring.count) % depth s.board) ≡ v % value_span
  pub others : (i : ℕ) → i ≢ (s.board.ring.first + s.board.ring.count) % depth s.board → entry o.state i ≡ entry s i

abbrev pub Load-place : Type 0
Load-place =
    (s : State) (v : ℕ)
    → (step s (write 0x18 v)).answer.fate ≡ 1
    → StoredThere s v (step s (write 0x18 v))

-- 01: "A leaving value moves first on by one, mod depth. A recirculated value leaves and is then stored."
pub record LeftThere (s : State) (o : Outcome) : Type 0 where
  pub first : o.state.board.ring.first ≡ (s.board.ring.first + o.answer.moved) % depth s.board
  pub fewer : ¬ Closed s.board.core → o.state.board.ring.count + o.answer.moved ≡ s.board.ring.count
  pub same : ¬ Closed s.board.core → o.state.memory ≡ s.memory
  pub as_many : Closed s.board.core → o.state.board.ring.count ≡ s.board.ring.count
  -- closed: the i-th value that moved stands again i places on from where the next value is stored ..
  pub again : Closed s.board.core → (i : ℕ) → i < o.answer.moved
      → entry o.state ((s.board.ring.first + s.board.ring.count + i) % depth s.board) ≡ get_or (stored s) i 0
  -- .. and every other entry is as it was
  pub beside : Closed s.board.core → (j : ℕ)
      → ((i : ℕ) → i < o.answer.moved → j ≢ (s.board.ring.first + s.board.ring.count + i) % depth s.board)
      → entry o.state j ≡ entry s j

abbrev pub Clock-place : Type 0
Clock-place =
    (s : State) (x : Signal)
    → refusal s (signal x) ≡ 0
    → Clocked x s.board
    → ReadyToMove s
    → LeftThere s (step s (signal x))

-- ---- The memory

pub record MemoryKept (s : State) (o : Outcome) : Type 0 where
  pub long : length o.state.memory ≡ length s.memory
  -- 01: "Entries from depth upward are never touched."
  pub above : (i : ℕ) → depth s.board ≤ i → entry o.state i ≡ entry s i
  -- 01: "Only those 17 bits are used or written; the rest of a written entry is 0."
  pub written : (i : ℕ) → (entry o.state i ≡ entry s i) ⊎ (entry o.state i < value_span)

abbrev pub Memory-kept : Type 0
Memory-kept = (s : State) (e : Event) → MemoryKept s (step s e)

-- A power-up writes no entry at all.
abbrev pub Power-up-memory : Type 0
Power-up-memory = (s : State) (x : Settings) → (step s (power_up x)).state.memory ≡ s.memory
