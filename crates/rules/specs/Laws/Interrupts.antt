-- The interrupt request after an event, by the selected condition before and after it.
use Rattle.std.specs.Prelude.{ℕ, ◌*◌, ◌≤◌, ◌<◌, ◌≡◌, ◌≢◌, ◌↔◌, Bool, true, false, [], length}
use Rattle.rules.specs.Types.{Settings, Event, power_up, write}
use Rattle.rules.specs.Bits.{bit}
use Rattle.rules.specs.Record.{State, stored, active_size}
use Rattle.rules.specs.Interrupt.{condition}
use Rattle.rules.specs.Refusals.{refusal}
use Rattle.rules.specs.Step.{step}
use Rattle.rules.specs.Laws.Closed.{Closed}

-- ---- Words

abbrev pub selected : State → ℕ
selected s = s.board.core.control.selection

-- 01: "conditions 1 calibrated, 2 empty, 3 low quarter, 4 high quarter, 5 burst ready, 6 load ready, 7 not load ready"
pub data Condition (s : State) : Type 0 where
  calibrated : selected s ≡ 1 → s.board.core.calibration.calibrated ≡ true → Condition s
  empty : selected s ≡ 2 → stored s ≡ [] → Condition s
  low : selected s ≡ 3 → 4 * length (stored s) < active_size s.board.size → Condition s
  high : selected s ≡ 4 → 3 * active_size s.board.size ≤ 4 * length (stored s) → Condition s
  burst : selected s ≡ 5 → s.board.core.control.bursts ≡ true → s.board.core.burst.running ≡ false → Condition s
  load_ready : selected s ≡ 6 → ¬ Closed s.board.core → Condition s
  not_load_ready : selected s ≡ 7 → Closed s.board.core → Condition s

pub data Initialises : Event → Type 0 where
  up : {x : Settings} → Initialises (power_up x)
  set : {v : ℕ} → bit 15 v ≡ true → Initialises (write 0x00 v)

-- a BCR write with D11 clear
pub data Clears : Event → Type 0 where
  clears : {v : ℕ} → bit 11 v ≡ false → Clears (write 0x00 v)

-- the request as D11 leaves it: cleared by a BCR write with D11 = 0, else as it was
pub record Held (e : Event) (before after : Bool) : Type 0 where
  pub cleared : Clears e → after ≡ false
  pub left : ¬ Clears e → after ≡ before

-- ---- The laws

-- the test is exactly the condition
abbrev pub Condition-exactly : Type 0
Condition-exactly = (s : State) → (condition s.board ≡ true) ↔ Condition s

-- "Initialise just sets it."
abbrev pub Request-initialised : Type 0
Request-initialised =
    (s : State) (e : Event)
    → refusal s e ≡ 0
    → Initialises e
    → (step s e).state.board.request ≡ true

-- 01: "If an event leaves the selection unchanged, false to true sets the request after all else; true to false clears it."
pub record Edge (s : State) (e : Event) (s' : State) : Type 0 where
  pub changed : selected s' ≢ selected s → Held e s.board.request s'.board.request
  pub rise : selected s' ≡ selected s → ¬ Condition s → Condition s' → s'.board.request ≡ true
  pub fall : selected s' ≡ selected s → Condition s → ¬ Condition s' → s'.board.request ≡ false
  pub level : selected s' ≡ selected s → (Condition s ↔ Condition s') → Held e s.board.request s'.board.request

abbrev pub Request-edge : Type 0
Request-edge =
    (s : State) (e : Event)
    → refusal s e ≡ 0
    → ¬ Initialises e
    → Edge s e (step s e).state
