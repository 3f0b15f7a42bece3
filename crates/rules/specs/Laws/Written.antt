-- What a write, a calibration's end and a settled event do: which bits are read back, which states follow, and what stays.
--   wrote s o v      the state after the bus wrote v at the offset o
--   ReadBack         a bit reads as it was written
use Rattle.std.specs.Prelude.{ℕ, ◌%◌, ◌^◌, ◌≡◌, ◌≢◌, true, false, ◌&&◌, List, [], ◌∷◌}
use Rattle.rules.specs.Types.{Board, write, signal, passed, failed, settled}
use Rattle.rules.specs.Bits.{bit}
use Rattle.rules.specs.Record.{State, channels}
use Rattle.rules.specs.Parts.{no_burst, no_load}
use Rattle.rules.specs.Registers.{read_at}
use Rattle.rules.specs.Refusals.{refusal}
use Rattle.rules.specs.Step.{step}
use Rattle.rules.specs.Laws.Refused.{SameRoom}
use Rattle.rules.specs.Laws.Stays.{Part, power, options, control, mode, calibration, clock, burst, load, lost, mask, cursor, levels, AllStay}

abbrev pub wrote : State → ℕ → ℕ → State
wrote s o v = (step s (write o v)).state

-- every bit that is listed reads, at the offset o of b, as it was written in v
pub data ReadBack (b : Board) (o v : ℕ) : List ℕ → Type 0 where
  none : ReadBack b o v []
  next : {k : ℕ} {ks : List ℕ} → bit k (read_at b o) ≡ bit k v → ReadBack b o v ks → ReadBack b o v (k ∷ ks)

-- ---- 00h, BCR

pub record ControlWritten (s : State) (v : ℕ) (s' : State) : Type 0 where
  -- "store D0, D3 to D10"; "D13 = calibrating"
  pub stored : ReadBack s'.board 0x00 v (0 ∷ 3 ∷ 4 ∷ 5 ∷ 6 ∷ 7 ∷ 8 ∷ 9 ∷ 10 ∷ 13 ∷ [])
  -- "Reserved bits read 0 and are ignored, BCR D12 too. BCR D15 .. read 0."
  pub reserved : (bit 12 (read_at s'.board 0x00) ≡ false) × (bit 15 (read_at s'.board 0x00) ≡ false)
  -- "D0 = 0 ends a burst"
  pub ended : bit 0 v ≡ false → s'.board.core.burst ≡ no_burst
  -- "D2 = 1 with D0 set and no burst starts one"
  pub started : bit 0 v ≡ true → bit 2 v ≡ true → s.board.core.burst.running ≡ false
      → s'.board.core.burst ≡ record { running = true; software = true }
  pub goes_on : bit 0 v ≡ true → s.board.core.burst.running ≡ true → s'.board.core.burst ≡ s.board.core.burst
  pub unasked : bit 0 v ≡ true → bit 2 v ≡ false → s'.board.core.burst ≡ s.board.core.burst
  -- "changed D7 sets the cursor to 0"
  pub turned : bit 7 v ≢ s.board.core.control.simultaneous → s'.board.core.outputs.cursor ≡ 0
  pub unturned : bit 7 v ≡ s.board.core.control.simultaneous → s'.board.core.outputs.cursor ≡ s.board.core.outputs.cursor
  -- "D13 = 1 starts calibration, clearing D14 and "calibrated""
  pub calibrates : bit 13 v ≡ true → s'.board.core.calibration ≡ record { running = true; failed = false; calibrated = false }
  pub uncalibrated : bit 13 v ≡ false → s'.board.core.calibration ≡ s.board.core.calibration
  -- and no more
  pub stays : AllStay s.board.core s'.board.core (power ∷ options ∷ mode ∷ clock ∷ load ∷ lost ∷ mask ∷ levels ∷ [])
  pub room : SameRoom s s'

abbrev pub Control-written : Type 0
Control-written =
    (s : State) (v : ℕ)
    → refusal s (write 0x00 v) ≡ 0
    → bit 15 v ≡ false
    → ControlWritten s v (wrote s 0x00 v)

-- ---- 04h, 08h and 1Ch

-- "04h keeps the bits of fitted channels and sets the cursor to 0."
pub record MaskWritten (s : State) (v : ℕ) (s' : State) : Type 0 where
  pub stored : read_at s'.board 0x04 ≡ v % 2 ^ channels s.board.core.options.kit
  pub mask : s'.board.core.outputs.mask ≡ v % 2 ^ channels s.board.core.options.kit
  pub cursor : s'.board.core.outputs.cursor ≡ 0
  pub stays : AllStay s.board.core s'.board.core
      (power ∷ options ∷ control ∷ mode ∷ calibration ∷ clock ∷ burst ∷ load ∷ lost ∷ levels ∷ [])
  pub room : SameRoom s s'

abbrev pub Mask-written : Type 0
Mask-written =
    (s : State) (v : ℕ)
    → refusal s (write 0x04 v) ≡ 0
    → MaskWritten s v (wrote s 0x04 v)

-- all but the clock, 08h and 1Ch
abbrev pub besides_clock : List Part
besides_clock = power ∷ options ∷ control ∷ mode ∷ calibration ∷ burst ∷ load ∷ lost ∷ mask ∷ cursor ∷ levels ∷ []

-- "08h keeps 16 bits."
pub record RateWritten (s : State) (v : ℕ) (s' : State) : Type 0 where
  pub stored : read_at s'.board 0x08 ≡ v % 0x10000
  pub divisor : s'.board.core.clock.divisor ≡ v % 0x10000
  pub adjust : read_at s'.board 0x1C ≡ read_at s.board 0x1C
  pub nclk : s'.board.core.clock.nclk ≡ s.board.core.clock.nclk
  pub alt : s'.board.core.clock.alt ≡ s.board.core.clock.alt
  pub settling : s'.board.core.clock.settling ≡ s.board.core.clock.settling
  pub stays : AllStay s.board.core s'.board.core besides_clock
  pub room : SameRoom s s'

abbrev pub Rate-written : Type 0
Rate-written =
    (s : State) (v : ℕ)
    → refusal s (write 0x08 v) ≡ 0
    → RateWritten s v (wrote s 0x08 v)

-- "1Ch keeps Nclk (D8..0) and ALT (D9); a changed Nclk with EXTERNAL CLOCK set starts settling"
pub record AdjustWritten (s : State) (v : ℕ) (s' : State) : Type 0 where
  pub stored : read_at s'.board 0x1C ≡ v % 0x400
  pub nclk : s'.board.core.clock.nclk ≡ v % 0x200
  pub alt : s'.board.core.clock.alt ≡ bit 9 v
  pub divisor : s'.board.core.clock.divisor ≡ s.board.core.clock.divisor
  pub starts : s.board.core.mode.external ≡ true → v % 0x200 ≢ s.board.core.clock.nclk → s'.board.core.clock.settling ≡ true
  pub same : v % 0x200 ≡ s.board.core.clock.nclk → s'.board.core.clock.settling ≡ s.board.core.clock.settling
  pub inner : s.board.core.mode.external ≡ false → s'.board.core.clock.settling ≡ s.board.core.clock.settling
  pub stays : AllStay s.board.core s'.board.core besides_clock
  pub room : SameRoom s s'

abbrev pub Adjust-written : Type 0
Adjust-written =
    (s : State) (v : ℕ)
    → refusal s (write 0x1C v) ≡ 0
    → AdjustWritten s v (wrote s 0x1C v)

-- ---- 0Ch, BOR, without its software clock (that is Moved's Software-clock)

pub record BufferWritten (s : State) (v : ℕ) (s' : State) : Type 0 where
  -- "store D0 to D5 and D8"
  pub stored : ReadBack s'.board 0x0C v (0 ∷ 1 ∷ 2 ∷ 3 ∷ 4 ∷ 5 ∷ 8 ∷ [])
  -- "BOR D7 and D11 read 0"
  pub reserved : (bit 7 (read_at s'.board 0x0C) ≡ false) × (bit 11 (read_at s'.board 0x0C) ≡ false)
  -- "D16, D17 = 0 clear those flags, 1 leaves them"
  pub overflow : bit 16 (read_at s'.board 0x0C) ≡ bit 16 (read_at s.board 0x0C) && bit 16 v
  pub frame_overflow : bit 17 (read_at s'.board 0x0C) ≡ bit 17 (read_at s.board 0x0C) && bit 17 v
  -- the size code, D0 to D3; the fitted code stays
  pub size : s'.board.size ≡ record { fitted = s.board.size.fitted; code = v % 16 }
  -- "D8 = 0 drops pending and opened"
  pub uncircled : bit 8 v ≡ false → s'.board.core.load ≡ no_load
  -- "D11 = 1 empties, ends a burst, drops pending and opened and sets the cursor to 0"
  pub empties : bit 11 v ≡ true → s'.board.ring ≡ record { first = 0; count = 0 }
  pub ends : bit 11 v ≡ true → s'.board.core.burst ≡ no_burst
  pub cursor : bit 11 v ≡ true → s'.board.core.outputs.cursor ≡ 0
  -- "if circular and not opened, pending = D9"
  pub dropped : bit 8 v ≡ true → bit 11 v ≡ true → s'.board.core.load ≡ record { pending = bit 9 v; opened = false }
  pub asked : bit 8 v ≡ true → bit 11 v ≡ false → s.board.core.load.opened ≡ false
      → s'.board.core.load ≡ record { pending = bit 9 v; opened = false }
  pub already_opened : bit 8 v ≡ true → bit 11 v ≡ false → s.board.core.load.opened ≡ true → s'.board.core.load ≡ s.board.core.load
  -- D11 = 0 leaves the stored values, the burst and the cursor
  pub keeps : bit 11 v ≡ false → (s'.board.ring ≡ s.board.ring)
      × (s'.board.core.burst ≡ s.board.core.burst)
      × (s'.board.core.outputs ≡ s.board.core.outputs)
  pub memory : s'.memory ≡ s.memory
  -- and no more
  pub stays : AllStay s.board.core s'.board.core (power ∷ options ∷ control ∷ calibration ∷ clock ∷ mask ∷ levels ∷ [])

abbrev pub Buffer-written : Type 0
Buffer-written =
    (s : State) (v : ℕ)
    → refusal s (write 0x0C v) ≡ 0
    → bit 7 v ≡ false
    → BufferWritten s v (wrote s 0x0C v)

-- ---- Calibration and settling

-- 01: "A calibration end clears D13, sets "calibrated" and sets D14 on failure." Reading: a pass leaves D14 (DECISIONS 25).
pub record CalibrationEnded (s s' : State) : Type 0 where
  pub d13 : bit 13 (read_at s'.board 0x00) ≡ false
  pub calibrated : s'.board.core.calibration.calibrated ≡ true
  pub stays : AllStay s.board.core s'.board.core
      (power ∷ options ∷ control ∷ mode ∷ clock ∷ burst ∷ load ∷ lost ∷ mask ∷ cursor ∷ levels ∷ [])
  pub room : SameRoom s s'

abbrev pub Passed-calibrated : Type 0
Passed-calibrated =
    (s : State)
    → refusal s (signal passed) ≡ 0
    → CalibrationEnded s (step s (signal passed)).state
    × (bit 14 (read_at (step s (signal passed)).state.board 0x00) ≡ bit 14 (read_at s.board 0x00))

abbrev pub Failed-calibrated : Type 0
Failed-calibrated =
    (s : State)
    → refusal s (signal failed) ≡ 0
    → CalibrationEnded s (step s (signal failed)).state
    × (bit 14 (read_at (step s (signal failed)).state.board 0x00) ≡ true)

-- 01: settling "lasts until the settled event or initialise"; "D6 reads EXTERNAL and neither settling nor calibrating"
pub record ClockSettled (s s' : State) : Type 0 where
  pub ready : s.board.core.calibration.running ≡ false → bit 6 (read_at s'.board 0x0C) ≡ bit 4 (read_at s.board 0x0C)
  pub settling : s'.board.core.clock.settling ≡ false
  pub divisor : s'.board.core.clock.divisor ≡ s.board.core.clock.divisor
  pub nclk : s'.board.core.clock.nclk ≡ s.board.core.clock.nclk
  pub alt : s'.board.core.clock.alt ≡ s.board.core.clock.alt
  pub stays : AllStay s.board.core s'.board.core besides_clock
  pub room : SameRoom s s'

abbrev pub Settled-clock : Type 0
Settled-clock =
    (s : State)
    → refusal s (signal settled) ≡ 0
    → ClockSettled s (step s (signal settled)).state
