-- What each bit of each register reads, whatever the board: the tables of Registers.antt as facts.
use Rattle.std.specs.Prelude.{ℕ, ◌+◌, ◌*◌, ◌%◌, ◌^◌, ◌≤◌, ◌<◌, ◌≡◌, ◌⊎◌, ◌↔◌, true, false}
use Rattle.rules.specs.Types.{Board}
use Rattle.rules.specs.Bits.{bit}
use Rattle.rules.specs.Record.{active_size}
use Rattle.rules.specs.Registers.{read_at}
use Rattle.rules.specs.Laws.Closed.{Closed}

abbrev pub control : Board → ℕ
control b = read_at b 0x00

pub record ControlRead (b : Board) : Type 0 where
  pub d00 : bit 0 (control b) ≡ b.core.control.bursts
  -- "D1 = enabled and no burst"
  pub d01 : (bit 1 (control b) ≡ true) ↔ ((b.core.control.bursts ≡ true) × (b.core.burst.running ≡ false))
  -- "D2 = software-started burst"
  pub d02 : bit 2 (control b) ≡ b.core.burst.software
  pub d03 : bit 3 (control b) ≡ b.core.control.ground_sense
  pub d04 : bit 4 (control b) ≡ b.core.control.binary
  pub d05 : bit 5 (control b) ≡ b.core.control.differential
  pub d06 : bit 6 (control b) ≡ b.core.control.barred
  pub d07 : bit 7 (control b) ≡ b.core.control.simultaneous
  pub d08 : bit 8 (control b) ≡ bit 0 b.core.control.selection
  pub d09 : bit 9 (control b) ≡ bit 1 b.core.control.selection
  pub d10 : bit 10 (control b) ≡ bit 2 b.core.control.selection
  pub d11 : bit 11 (control b) ≡ b.request
  pub d12 : bit 12 (control b) ≡ false
  -- "D13 = calibrating"
  pub d13 : bit 13 (control b) ≡ b.core.calibration.running
  pub d14 : bit 14 (control b) ≡ b.core.calibration.failed
  pub d15 : bit 15 (control b) ≡ false
  -- and all above reads 0
  pub d16 : control b < 2 ^ 16

abbrev pub buffer : Board → ℕ
buffer b = read_at b 0x0C

pub record BufferRead (b : Board) : Type 0 where
  pub d00 : bit 0 (buffer b) ≡ bit 0 b.size.code
  pub d01 : bit 1 (buffer b) ≡ bit 1 b.size.code
  pub d02 : bit 2 (buffer b) ≡ bit 2 b.size.code
  pub d03 : bit 3 (buffer b) ≡ bit 3 b.size.code
  pub d04 : bit 4 (buffer b) ≡ b.core.mode.external
  pub d05 : bit 5 (buffer b) ≡ b.core.mode.enabled
  -- "D6 reads EXTERNAL and neither settling nor calibrating"
  pub d06 : (bit 6 (buffer b) ≡ true)
      ↔ ((b.core.mode.external ≡ true) × (b.core.clock.settling ≡ false) × (b.core.calibration.running ≡ false))
  pub d07 : bit 7 (buffer b) ≡ false
  pub d08 : bit 8 (buffer b) ≡ b.core.mode.circular
  -- "D9 reads pending or opened"
  pub d09 : (bit 9 (buffer b) ≡ true) ↔ ((b.core.load.pending ≡ true) ⊎ (b.core.load.opened ≡ true))
  -- "D10 reads "not closed""
  pub d10 : (bit 10 (buffer b) ≡ true) ↔ (¬ Closed b.core)
  pub d11 : bit 11 (buffer b) ≡ false
  -- "empty at count 0; low quarter at 4·count < size; .. full at count ≥ size"; 02, 2026-06: "high quarter when 4·count is at least
  -- 3·size"
  pub d12 : (bit 12 (buffer b) ≡ true) ↔ (b.ring.count ≡ 0)
  pub d13 : (bit 13 (buffer b) ≡ true) ↔ (4 * b.ring.count < active_size b.size)
  pub d14 : (bit 14 (buffer b) ≡ true) ↔ (3 * active_size b.size ≤ 4 * b.ring.count)
  pub d15 : (bit 15 (buffer b) ≡ true) ↔ (active_size b.size ≤ b.ring.count)
  pub d16 : bit 16 (buffer b) ≡ b.core.lost.full
  pub d17 : bit 17 (buffer b) ≡ b.core.lost.closed
  -- and all above reads 0
  pub d18 : buffer b < 2 ^ 18

-- the registers that are fields alone; each field reads no more bits than it has
pub record FieldsRead (b : Board) : Type 0 where
  pub mask : read_at b 0x04 ≡ b.core.outputs.mask % 2 ^ 20
  pub rate : read_at b 0x08 ≡ b.core.clock.divisor % 2 ^ 16
  -- "10h is firmware in D11..0, range D17..16, filter D19..18, kit D21..20"
  pub assembly : read_at b 0x10
      ≡ b.core.options.firmware % 2 ^ 12
      + 2 ^ 16 * (b.core.options.range % 4)
      + 2 ^ 18 * (b.core.options.filter % 4)
      + 2 ^ 20 * (b.core.options.kit % 4)
  -- "18h reads 0; 14h reads 0"
  pub autocal : read_at b 0x14 ≡ 0
  pub output_data : read_at b 0x18 ≡ 0
  pub adjust : b.core.clock.alt ≡ false → read_at b 0x1C ≡ b.core.clock.nclk % 2 ^ 9
  pub alternate : b.core.clock.alt ≡ true → read_at b 0x1C ≡ b.core.clock.nclk % 2 ^ 9 + 2 ^ 9

abbrev pub Control-read : Type 0
Control-read = (b : Board) → ControlRead b

abbrev pub Buffer-read : Type 0
Buffer-read = (b : Board) → BufferRead b

abbrev pub Fields-read : Type 0
Fields-read = (b : Board) → FieldsRead b
