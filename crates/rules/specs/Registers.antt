-- The registers as the bus reads them (manual tables 3.2-1, 3.4-2, 3.4-5, 3.4-7, 3.10-1, 3.11-1; 01, "Registers").
-- A register is its list of bits, D00 first, a row each with the manual's designation; a field of several bits is a row too.
--   registers      the map: each register's offset and bits, in the manual's order (table 3.1-1)
--   read_at b o     what is read from b at the offset o
use Rattle.std.specs.Prelude.{ℕ, Bool, false, not, ◌||◌, cond, List, [], ◌∷◌, ◌++◌, map, eqb, replicate}
use Rattle.rules.specs.Types.{Board}
use Rattle.rules.specs.Bits.{bits_of, number, some}
use Rattle.rules.specs.Clocks.{closed, clock_ready, burst_ready}
use Rattle.rules.specs.Flags.{is_empty, is_low, is_high, is_full}

-- 01: "Reserved bits read 0 and are ignored"
abbrev pub reserved : ℕ → List Bool
reserved n = replicate n false

-- 00h, the board control register, BCR
unfoldable pub control_bits : Board → List Bool
control_bits b =
    -- D00      BURST ENABLED           r/w
    b.core.control.bursts
    -- D01      BURST READY             r    01: "D1 = enabled and no burst"
    ∷ burst_ready b.core
    -- D02      BURST TRIGGER           r/w  01: "D2 = software-started burst"
    ∷ b.core.burst.software
    -- D03      REMOTE GROUND SENSE     r/w
    ∷ b.core.control.ground_sense
    -- D04      OFFSET BINARY           r/w
    ∷ b.core.control.binary
    -- D05      DIFFERENTIAL SYNC I/O   r/w
    ∷ b.core.control.differential
    -- D06      DISABLE EXT BURST TRIG  r/w
    ∷ b.core.control.barred
    -- D07      SIMULTANEOUS OUTPUTS    r/w
    ∷ b.core.control.simultaneous
    -- D08-D10  INTERRUPT A0-A2         r/w
    ∷ bits_of 3 b.core.control.selection
    -- D11      INTERRUPT REQUEST FLAG  r/w
    ++ b.request
    -- D12      (Reserved)                   01: "BCR D12 too"
    ∷ false
    -- D13      AUTOCALIBRATION         r/w  01: "D13 = calibrating"
    ∷ b.core.calibration.running
    -- D14      AUTOCAL STATUS FLAG     r
    ∷ b.core.calibration.failed
    -- D15      INITIALIZE              w    01: "BCR D15 .. read 0"
    ∷ false
    ∷ []

-- 04h, channel selection
unfoldable pub mask_bits : Board → List Bool
mask_bits b =
    -- D00-D19  ENABLE CHANNEL 00-19    r/w
    bits_of 20 b.core.outputs.mask

-- 08h, sample rate
unfoldable pub rate_bits : Board → List Bool
rate_bits b =
    -- D00-D15  RATE 00-15              r/w
    bits_of 16 b.core.clock.divisor

-- 0Ch, buffer operations, BOR
unfoldable pub buffer_bits : Board → List Bool
buffer_bits b =
    -- D00-D03  SIZE 00-03              r/w
    bits_of 4 b.size.code
    -- D04      EXTERNAL CLOCK          r/w
    ++ b.core.mode.external
    -- D05      ENABLE CLOCK            r/w
    ∷ b.core.mode.enabled
    -- D06      CLOCK READY             r    01: "D6 reads EXTERNAL and neither settling nor calibrating"
    ∷ clock_ready b.core
    -- D07      SW CLOCK                w    01: "BOR D7 and D11 read 0"
    ∷ false
    -- D08      CIRCULAR BUFFER         r/w
    ∷ b.core.mode.circular
    -- D09      LOAD REQUEST            r/w  01: "D9 reads pending or opened"
    ∷ (b.core.load.pending || b.core.load.opened)
    -- D10      LOAD READY              r    01: "D10 reads "not closed""
    ∷ not (closed b.core)
    -- D11      CLEAR BUFFER            w
    ∷ false
    -- D12      BUFFER EMPTY            r    01: "D12 to D15 are read-only"
    ∷ is_empty b.ring.count
    -- D13      BUFFER LOW QUARTER      r
    ∷ is_low b.size b.ring.count
    -- D14      BUFFER HIGH QUARTER     r
    ∷ is_high b.size b.ring.count
    -- D15      BUFFER FULL             r
    ∷ is_full b.size b.ring.count
    -- D16      BUFFER OVERFLOW         r/w
    ∷ b.core.lost.full
    -- D17      FRAME OVERFLOW          r/w
    ∷ b.core.lost.closed
    ∷ []

-- 10h, firmware and options
unfoldable pub option_bits : Board → List Bool
option_bits b =
    -- D00-D11  Firmware revision       r    01: "10h is firmware in D11..0, range D17..16, filter D19..18, kit D21..20"
    bits_of 12 b.core.options.firmware
    -- D12-D15  (Reserved)
    ++ reserved 4
    -- D16-D17  Output voltage range    r
    ++ bits_of 2 b.core.options.range
    -- D18-D19  Output filter           r
    ++ bits_of 2 b.core.options.filter
    -- D20-D21  Channels installed      r
    ++ bits_of 2 b.core.options.kit

-- 1Ch, adjustable clock
unfoldable pub adjust_bits : Board → List Bool
adjust_bits b =
    -- D00-D08  CLOCK RATE (Nclk)       r/w
    bits_of 9 b.core.clock.nclk
    -- D09      SELECT ALTERNATE REFERENCE r/w
    ++ b.core.clock.alt
    ∷ []

-- 01: "18h reads 0; 14h reads 0"
abbrev pub nothing : Board → List Bool
nothing b = []

-- ---- The map

pub record Register : Type 0 where
  pub offset : ℕ
  pub bits : Board → List Bool

unfoldable pub registers : List Register
registers =
    record { offset = 0x00; bits = control_bits }
    ∷ record { offset = 0x04; bits = mask_bits }
    ∷ record { offset = 0x08; bits = rate_bits }
    ∷ record { offset = 0x0C; bits = buffer_bits }
    ∷ record { offset = 0x10; bits = option_bits }
    ∷ record { offset = 0x14; bits = nothing }
    ∷ record { offset = 0x18; bits = nothing }
    ∷ record { offset = 0x1C; bits = adjust_bits }
    ∷ []

-- 01: "offset other than 00, 04, 08, 0C, 10, 14, 18, 1C (hex)" is what this denies
unfoldable pub is_offset : ℕ → Bool
is_offset o = some (map (λ (r : Register). eqb o r.offset) registers)

unfoldable pub read_from : List Register → Board → ℕ → ℕ
read_from [] b o = 0
read_from (r ∷ rs) b o = cond (eqb o r.offset) (number (r.bits b)) (read_from rs b o)

abbrev pub read_at : Board → ℕ → ℕ
read_at b o = read_from registers b o
