-- When each refusal number is given, exactly (01, "Refusal numbers": the table and its order; 02, 2026-02, for the settings of a
-- power-up).
use Rattle.std.specs.Prelude.{ℕ, ◌%◌, ◌≤◌, ◌<◌, ◌≡◌, ◌≢◌, ◌⊎◌, ◌↔◌, true, false, length}
use Rattle.rules.specs.Types.{Settings, Event, power_up, write, read, signal, Signal, tick, outside, trigger, passed, failed, settled}
use Rattle.rules.specs.Record.{State, depth_of, depth}
use Rattle.rules.specs.Refusals.{refusal}
use Rattle.rules.specs.Step.{step}
use Rattle.rules.specs.Laws.Soundness.{Sound, Stands}

-- ---- Words

pub record InRange (x : Settings) : Type 0 where
  pub fitted : x.fitted ≤ 15
  pub range : x.range ≤ 2
  pub filter : x.filter ≤ 2
  pub kit : x.kit ≤ 2
  pub firmware : x.firmware ≤ 4095

-- the eight offsets are the multiples of 4 up to 1Ch
pub record Offset (o : ℕ) : Type 0 where
  pub aligned : o % 4 ≡ 0
  pub low : o ≤ 0x1C

-- any event but a power-up
abbrev pub Ordinary : Event → Type 0
Ordinary (power_up x) = ⊥
Ordinary (write o v) = Unit {0}
Ordinary (read o) = Unit {0}
Ordinary (signal x) = Unit {0}

-- a tick, an outside clock or a trigger: never refused but by 3 and 2
pub data Heard : Signal → Type 0 where
  a_tick : Heard tick
  a_clock : Heard outside
  a_trigger : Heard trigger

pub data EndsCalibration : Signal → Type 0 where
  a_pass : EndsCalibration passed
  a_failure : EndsCalibration failed

abbrev pub Calibrating : State → Type 0
Calibrating s = s.board.core.calibration.running ≡ true

-- ---- The table

-- A line for each way in which an event comes by its number.
pub data Given (s : State) : Event → ℕ → Type 0 where
  -- 02, 2026-02: "1 now means the fitted code only; 14 range, 15 filter, 16 kit, 17 firmware; checked in that order, then 2."
  bad_fitted : {x : Settings} → 15 < x.fitted → Given s (power_up x) 1
  bad_range : {x : Settings} → x.fitted ≤ 15 → 2 < x.range → Given s (power_up x) 14
  bad_filter : {x : Settings} → x.fitted ≤ 15 → x.range ≤ 2 → 2 < x.filter → Given s (power_up x) 15
  bad_kit : {x : Settings} → x.fitted ≤ 15 → x.range ≤ 2 → x.filter ≤ 2 → 2 < x.kit → Given s (power_up x) 16
  bad_firmware : {x : Settings} → x.fitted ≤ 15 → x.range ≤ 2 → x.filter ≤ 2 → x.kit ≤ 2 → 4095 < x.firmware → Given s (power_up x) 17
  -- 2  "sample memory shorter than the depth"; at a power-up, than the depth it would fit
  short_for_power_up : {x : Settings} → InRange x → length s.memory < depth_of x.fitted → Given s (power_up x) 2
  short : {e : Event} → Ordinary e → Sound s.board → length s.memory < depth s.board → Given s e 2
  -- 3  "record not sound"
  unsound : {e : Event} → Ordinary e → ¬ Sound s.board → Given s e 3
  -- 4  "offset other than 00, 04, 08, 0C, 10, 14, 18, 1C (hex)"
  no_such_write : {o v : ℕ} → Stands s → ¬ Offset o → Given s (write o v) 4
  no_such_read : {o : ℕ} → Stands s → ¬ Offset o → Given s (read o) 4
  -- 5  "write to 10h or 14h"
  read_only : {o v : ℕ} → Stands s → (o ≡ 0x10) ⊎ (o ≡ 0x14) → Given s (write o v) 5
  -- 6  "any other write while calibrating"
  calibrating : {o v : ℕ} → Stands s → Offset o → o ≢ 0x10 → o ≢ 0x14 → Calibrating s → Given s (write o v) 6
  -- 7  "calibration end while none runs, or settled while not settling"
  no_calibration : {x : Signal} → EndsCalibration x → Stands s → ¬ Calibrating s → Given s (signal x) 7
  not_settling : Stands s → s.board.core.clock.settling ≡ false → Given s (signal settled) 7
  -- 0  "done"
  powered_up : {x : Settings} → InRange x → depth_of x.fitted ≤ length s.memory → Given s (power_up x) 0
  written : {o v : ℕ} → Stands s → Offset o → o ≢ 0x10 → o ≢ 0x14 → ¬ Calibrating s → Given s (write o v) 0
  read_out : {o : ℕ} → Stands s → Offset o → Given s (read o) 0
  heard : {x : Signal} → Heard x → Stands s → Given s (signal x) 0
  calibration_ended : {x : Signal} → EndsCalibration x → Stands s → Calibrating s → Given s (signal x) 0
  has_settled : Stands s → s.board.core.clock.settling ≡ true → Given s (signal settled) 0

-- ---- The laws

-- Each number is given exactly when the table says so.
abbrev pub Refusal-exactly : Type 0
Refusal-exactly = (s : State) (e : Event) (n : ℕ) → (refusal s e ≡ n) ↔ Given s e n

-- It is the number that an event answers.
abbrev pub Refusal-answered : Type 0
Refusal-answered = (s : State) (e : Event) → (step s e).answer.refusal ≡ refusal s e
