-- Events that change nothing: the refused, the reads, and the clocks and triggers that are not accepted.
use Rattle.std.specs.Prelude.{ℕ, ◌≡◌, ◌≢◌, ◌⊎◌, true, false, [], ◌∷◌}
use Rattle.rules.specs.Types.{Board, Event, power_up, write, read, signal, Signal, tick, outside, trigger, passed, failed, settled}
use Rattle.rules.specs.Record.{State}
use Rattle.rules.specs.Bits.{bit}
use Rattle.rules.specs.Registers.{read_at}
use Rattle.rules.specs.Refusals.{refusal}
use Rattle.rules.specs.Step.{Outcome, step}
use Rattle.rules.specs.Laws.Stays.{power, options, control, mode, calibration, clock, load, lost, mask, cursor, levels, AllStay}

-- the answers but the refusal number are 0, record and memory are those given
pub record Nothing (s : State) (o : Outcome) : Type 0 where
  pub register : o.answer.register ≡ 0
  pub moved : o.answer.moved ≡ 0
  pub fate : o.answer.fate ≡ 0
  pub state : o.state ≡ s

-- sizes, places and memory are as they were
pub record SameRoom (s s' : State) : Type 0 where
  pub size : s'.board.size ≡ s.board.size
  pub ring : s'.board.ring ≡ s.board.ring
  pub memory : s'.memory ≡ s.memory

-- ---- Acceptance

-- 01: "A generator tick is accepted when clocking is enabled and (EXTERNAL = 0 or ALT = 1)."
pub record TickAccepted (b : Board) : Type 0 where
  pub enabled : b.core.mode.enabled ≡ true
  pub source : (b.core.mode.external ≡ false) ⊎ (b.core.clock.alt ≡ true)
  -- "While calibrating, no clock or trigger is accepted."
  pub uncalibrating : b.core.calibration.running ≡ false

-- 01: "An outside or software clock is accepted when enabled, EXTERNAL = 1, ALT = 0 and D6 = 1."
pub record ClockAccepted (b : Board) : Type 0 where
  pub enabled : b.core.mode.enabled ≡ true
  pub external : b.core.mode.external ≡ true
  pub direct : b.core.clock.alt ≡ false
  pub settled : b.core.clock.settling ≡ false
  pub uncalibrating : b.core.calibration.running ≡ false

-- 01: "An outside trigger starts a burst when BCR D0 = 1, BCR D6 = 0, and there is no burst or calibration."
pub record TriggerAccepted (b : Board) : Type 0 where
  pub bursts : b.core.control.bursts ≡ true
  pub unbarred : b.core.control.barred ≡ false
  pub resting : b.core.burst.running ≡ false
  pub uncalibrating : b.core.calibration.running ≡ false

-- the signals that 01 accepts or not, and when
abbrev pub Accepted : Signal → Board → Type 0
Accepted tick b = TickAccepted b
Accepted outside b = ClockAccepted b
Accepted trigger b = TriggerAccepted b
Accepted passed b = Unit {0}
Accepted failed b = Unit {0}
Accepted settled b = Unit {0}

-- ---- The laws

-- 01: "On refusal the last three are 0, the given record comes back and memory is unchanged."
abbrev pub Refused-nothing : Type 0
Refused-nothing =
    (s : State) (e : Event)
    → (step s e).answer.refusal ≢ 0
    → Nothing s (step s e)

-- 01: "Clocks and triggers that are not accepted answer 0 and change nothing."
abbrev pub Unaccepted-nothing : Type 0
Unaccepted-nothing =
    (s : State) (x : Signal)
    → ¬ Accepted x s.board
    → Nothing s (step s (signal x))

-- 01: "register value (0 unless a read)"
abbrev pub IsRead : Event → Type 0
IsRead (power_up x) = ⊥
IsRead (write a v) = ⊥
IsRead (read a) = Unit {0}
IsRead (signal x) = ⊥

abbrev pub Register-none : Type 0
Register-none = (s : State) (e : Event) → ¬ IsRead e → (step s e).answer.register ≡ 0

-- A read answers the register and changes nothing.
abbrev pub Read-nothing : Type 0
Read-nothing =
    (s : State) (o : ℕ)
    → refusal s (read o) ≡ 0
    → ((step s (read o)).answer.register ≡ read_at s.board o) × ((step s (read o)).state ≡ s)

-- An accepted trigger starts a burst that software did not start (D1 and D2 read 0), and does nothing else but to the request.
pub record TriggerStarted (s s' : State) : Type 0 where
  pub running : s'.board.core.burst.running ≡ true
  pub d1 : bit 1 (read_at s'.board 0x00) ≡ false
  pub d2 : bit 2 (read_at s'.board 0x00) ≡ false
  pub stays : AllStay s.board.core s'.board.core
      (power ∷ options ∷ control ∷ mode ∷ calibration ∷ clock ∷ load ∷ lost ∷ mask ∷ cursor ∷ levels ∷ [])
  pub room : SameRoom s s'

abbrev pub Trigger-starts : Type 0
Trigger-starts =
    (s : State)
    → refusal s (signal trigger) ≡ 0
    → TriggerAccepted s.board
    → TriggerStarted s (step s (signal trigger)).state
