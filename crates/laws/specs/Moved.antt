-- What an accepted clock moves, whereto, and what it leaves stored.
--   Clocked x b      the signal x is a clock that b accepts
--   group_size b      the values that one clock of b moves if it moves any
--   ReadyToMove s    it moves them
use Rattle.std.specs.Prelude.{ℕ, ◌+◌, ◌%◌, ◌≤◌, ◌<◌, ◌≡◌, ◌≢◌, ◌⊎◌, ◌↔◌, Bool, true, false, cond, List, [], ◌∷◌, ◌++◌, length, get_or, take, drop}
use Rattle.std.specs.Int.Count.{ones}
use Rattle.laws.specs.Types.{Board, Event, power_up, write, read, signal, Signal, tick, outside, trigger, passed, failed, settled}
use Rattle.rules.specs.Bits.{bit}
use Rattle.rules.specs.Record.{State, stored, level_span}
use Rattle.rules.specs.Clocks.{targets}
use Rattle.rules.specs.Refusals.{refusal}
use Rattle.rules.specs.Step.{Outcome, step}
use Rattle.rules.specs.Laws.Soundness.{Sound}
use Rattle.rules.specs.Laws.Refused.{Nothing, TickAccepted, ClockAccepted}
use Rattle.rules.specs.Laws.Closed.{Closed}
use Rattle.rules.specs.Laws.Stays.{Part, power, options, control, mode, calibration, clock, lost, mask, AllStay}

-- ---- Words

abbrev pub Clocked : Signal → Board → Type 0
Clocked tick b = TickAccepted b
Clocked outside b = ClockAccepted b
Clocked trigger b = ⊥
Clocked passed b = ⊥
Clocked failed b = ⊥
Clocked settled b = ⊥

-- 01: "sequential mode moves one value"; "Simultaneous mode moves as many values as the mask has ones"
unfoldable pub group_size : Board → ℕ
group_size b = cond b.core.control.simultaneous (ones b.core.outputs.mask) 1

pub record ReadyToMove (s : State) : Type 0 where
  -- "moves nothing if the mask is 0"
  pub mask : s.board.core.outputs.mask ≢ 0
  -- "or if bursts are enabled with none in progress"
  pub burst : s.board.core.control.bursts ≡ true → s.board.core.burst.running ≡ true
  -- "if any"; "only if that many are stored"
  pub enough : group_size s.board ≤ length (stored s)

-- 01: "Offset binary makes the level equal the data; two's complement adds 8000h mod 10000h."
pub record Coding (binary : Bool) (v level : ℕ) : Type 0 where
  pub same : binary ≡ true → level ≡ v % level_span
  pub lower : binary ≡ false → v % level_span < 0x8000 → level ≡ v % level_span + 0x8000
  pub upper : binary ≡ false → 0x8000 ≤ v % level_span → level + 0x8000 ≡ v % level_span

pub record Among (k : ℕ) (ks : List ℕ) : Type 0 where
  pub index : ℕ
  pub inside : index < length ks
  pub there : get_or ks index 0 ≡ k

abbrev pub level_at : State → ℕ → ℕ
level_at s k = get_or s.board.core.outputs.levels k 0

-- ---- Which channels are the targets

-- k is active, and no channel from n up to it is
pub record LowestFrom (mask n k : ℕ) : Type 0 where
  pub active : bit k mask ≡ true
  pub above : n ≤ k
  pub lowest : (j : ℕ) → n ≤ j → j < k → bit j mask ≡ false

-- 01: "to the lowest active channel at or above the cursor, else to the lowest active one"
abbrev pub Sequential-target : Type 0
Sequential-target =
    (b : Board)
    → Sound b
    → b.core.outputs.mask ≢ 0
    → b.core.control.simultaneous ≡ false
    → (k : ℕ)
    × (targets b.core ≡ k ∷ [])
    × (k < 20)
    × (LowestFrom b.core.outputs.mask b.core.outputs.cursor k
    ⊎ (LowestFrom b.core.outputs.mask 0 k × ((j : ℕ) → b.core.outputs.cursor ≤ j → bit j b.core.outputs.mask ≡ false)))

-- In simultaneous mode: the active channels, all of them, "ascending".
pub record ActiveAscending (mask : ℕ) (ks : List ℕ) : Type 0 where
  pub active : (k : ℕ) → Among k ks ↔ (bit k mask ≡ true)
  pub ascending : (i j : ℕ) → i < j → j < length ks → get_or ks i 0 < get_or ks j 0
  pub as_many_as_ones : length ks ≡ ones mask

abbrev pub Simultaneous-targets : Type 0
Simultaneous-targets =
    (b : Board)
    → Sound b
    → b.core.control.simultaneous ≡ true
    → ActiveAscending b.core.outputs.mask (targets b.core)

-- ---- What moves

abbrev pub Idle-nothing : Type 0
Idle-nothing =
    (s : State) (x : Signal)
    → refusal s (signal x) ≡ 0
    → Clocked x s.board
    → ¬ ReadyToMove s
    → Nothing s (step s (signal x))

-- all but burst, load, cursor and levels
abbrev pub besides_moved : List Part
besides_moved = power ∷ options ∷ control ∷ mode ∷ calibration ∷ clock ∷ lost ∷ mask ∷ []

pub record Moves (s : State) (o : Outcome) : Type 0 where
  pub whole : o.answer.moved ≡ group_size s.board
  -- the stored list after is the one before without its first `moved` values ..
  pub discarded : ¬ Closed s.board.core → stored o.state ≡ drop o.answer.moved (stored s)
  -- .. followed by them if the buffer was closed
  pub recirculated : Closed s.board.core
      → stored o.state ≡ drop o.answer.moved (stored s) ++ take o.answer.moved (stored s)
  -- the i-th target's level is the coding of the i-th value
  pub given : (i : ℕ) → i < o.answer.moved
      → Coding s.board.core.control.binary (get_or (stored s) i 0) (level_at o.state (get_or (targets s.board.core) i 0))
  -- 01: "Other channels hold."
  pub hold : (k : ℕ) → ¬ Among k (targets s.board.core) → level_at o.state k ≡ level_at s k
  -- "the cursor becomes that channel + 1"; "the cursor stays 0"
  pub single : s.board.core.control.simultaneous ≡ false
      → o.state.board.core.outputs.cursor ≡ get_or (targets s.board.core) 0 0 + 1
  pub group : s.board.core.control.simultaneous ≡ true → o.state.board.core.outputs.cursor ≡ 0
  -- and no more; the size neither
  pub stays : AllStay s.board.core o.state.board.core besides_moved
  pub size : o.state.board.size ≡ s.board.size

-- The twenty levels are twenty: the record's array has no other length.
abbrev pub Clock-moves : Type 0
Clock-moves =
    (s : State) (x : Signal)
    → length s.board.core.outputs.levels ≡ 20
    → refusal s (signal x) ≡ 0
    → Clocked x s.board
    → ReadyToMove s
    → Moves s (step s (signal x))

-- ---- How many

-- 01: "values moved (0 to 20)"
abbrev pub Moved-most : Type 0
Moved-most = (s : State) (e : Event) → (step s e).answer.moved ≤ 20

-- Nothing, or the whole group: in sequential mode 0 or 1, in simultaneous mode 0 or as many as the mask has ones.
abbrev pub Moved-group : Type 0
Moved-group = (s : State) (e : Event) → ((step s e).answer.moved ≡ 0) ⊎ ((step s e).answer.moved ≡ group_size s.board)

-- the events that may move values: clocks, and BOR writes with D7 set
abbrev pub MayMove : Event → Type 0
MayMove (power_up x) = ⊥
MayMove (write o v) = (o ≡ 0x0C) × (bit 7 v ≡ true)
MayMove (read o) = ⊥
MayMove (signal tick) = Unit {0}
MayMove (signal outside) = Unit {0}
MayMove (signal trigger) = ⊥
MayMove (signal passed) = ⊥
MayMove (signal failed) = ⊥
MayMove (signal settled) = ⊥

abbrev pub Moved-none : Type 0
Moved-none = (s : State) (e : Event) → ¬ MayMove e → (step s e).answer.moved ≡ 0

-- ---- The software clock

-- A BOR write with D7 set does what the same write without it does, followed by an outside clock; the interrupt aside, which sees
-- one event here and two there.
pub record SameButRequest (o o' : Outcome) : Type 0 where
  pub answer : o.answer ≡ o'.answer
  pub core : o.state.board.core ≡ o'.state.board.core
  pub size : o.state.board.size ≡ o'.state.board.size
  pub ring : o.state.board.ring ≡ o'.state.board.ring
  pub memory : o.state.memory ≡ o'.state.memory

abbrev pub Software-clock : Type 0
Software-clock =
    (s : State) (v : ℕ)
    → refusal s (write 0x0C (v + 0x80)) ≡ 0
    → bit 7 v ≡ false
    → SameButRequest (step s (write 0x0C (v + 0x80))) (step (step s (write 0x0C v)).state (signal outside))
