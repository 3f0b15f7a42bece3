-- What the bus writes (01, "Registers", and the loads of "Stored values, clocks and bursts").
--   initial o            the core that initialise and power-up leave, with the options o
--   control_of v, ..     what becomes of the control bits, and so of each part, when v is written
--   on_write c buf full  the write to each offset; a write that 01 refuses never comes here
-- The size code (BOR D00-D03) and the interrupt request (BCR D11) are no part of the core: Size.antt and Interrupt.antt.
use Rattle.std.specs.Prelude.{ℕ, ◌/◌, ◌%◌, ◌^◌, ◌-◌, Bool, true, false, not, ◌&&◌, ◌||◌, cond, List, eqb, replicate}
use Rattle.rules.specs.Types.{Options, Control, Mode, Calibration, Burst, Load, Lost, Core}
use Rattle.rules.specs.Bits.{bit}
use Rattle.rules.specs.Record.{value_span, channels}
use Rattle.rules.specs.Parts.{no_burst, no_load, no_loss, with_control, with_mode, with_calibration, with_clock, with_burst, with_load, with_lost, with_outputs, with_cursor}
use Rattle.rules.specs.Clocks.{clear, store, keep, Play, only, closed, on_outside}
use Rattle.rules.specs.Types.{none, was_stored, lost_to_full, lost_to_closed}

-- ---- Initialise

-- 01: "Initialise: BCR 00000810h, mask of all fitted channels (000FFFFFh for kit 2), divisor 0064h, BOR 0000340Fh, 1Ch zero, empty
-- buffer, all 20 levels 8000h, cursor 0, no burst, settling, calibration or "calibrated"."
unfoldable pub initial : Options → Core
initial o =
    record {
      powered = true;
      options = o;
      control = record {
        bursts = false;
        ground_sense = false;
        binary = true;
        differential = false;
        barred = false;
        simultaneous = false;
        selection = 0;
      };
      mode = record { external = false; enabled = false; circular = false };
      calibration = record { running = false; failed = false; calibrated = false };
      clock = record { divisor = 0x64; nclk = 0; alt = false; settling = false };
      burst = no_burst;
      load = no_load;
      lost = no_loss;
      outputs = record { mask = 2 ^ channels o.kit - 1; cursor = 0; levels = replicate 20 0x8000 };
    }

abbrev pub initialised : Options → Play
initialised o = record { core = initial o; op = clear; moved = 0; fate = none }

-- ---- 00h, BCR

-- 01: "store D0, D3 to D10"
abbrev pub control_of : ℕ → Control
control_of v =
    record {
      bursts = bit 0 v;
      ground_sense = bit 3 v;
      binary = bit 4 v;
      differential = bit 5 v;
      barred = bit 6 v;
      simultaneous = bit 7 v;
      selection = v / 2 ^ 8 % 8;
    }

-- 01: "D0 = 0 ends a burst"; "D2 = 1 with D0 set and no burst starts one". Reading: D0 as written (DECISIONS 2).
unfoldable pub burst_of : ℕ → Burst → Burst
burst_of v x = cond (bit 0 v) (cond (bit 2 v && not x.running) (record { running = true; software = true }) x) no_burst

-- 01: "changed D7 sets the cursor to 0"
unfoldable pub cursor_of : Bool → Bool → ℕ → ℕ
cursor_of was is n = cond (cond was is (not is)) n 0

-- 01: "D13 = 1 starts calibration, clearing D14 and "calibrated""
unfoldable pub calibration_of : ℕ → Calibration → Calibration
calibration_of v x = cond (bit 13 v) (record { running = true; failed = false; calibrated = false }) x

-- 01: "BCR write, in order: .."
unfoldable pub write_control : Core → ℕ → Play
write_control c v =
    only (with_control (control_of v)
    (with_burst (burst_of v c.burst)
    (with_cursor (cursor_of c.control.simultaneous (bit 7 v) c.outputs.cursor)
    (with_calibration (calibration_of v c.calibration) c))))

-- ---- 04h, 08h and 1Ch

-- 01: "04h keeps the bits of fitted channels and sets the cursor to 0."
unfoldable pub write_mask : Core → ℕ → Play
write_mask c v =
    only (with_outputs (record {
      mask = v % 2 ^ channels c.options.kit;
      cursor = 0;
      levels = c.outputs.levels;
    }) c)

-- 01: "08h keeps 16 bits."
unfoldable pub write_rate : Core → ℕ → Play
write_rate c v =
    only (with_clock (record {
      divisor = v % 2 ^ 16;
      nclk = c.clock.nclk;
      alt = c.clock.alt;
      settling = c.clock.settling;
    }) c)

-- 01: "1Ch keeps Nclk (D8..0) and ALT (D9); a changed Nclk with EXTERNAL CLOCK set starts settling, which lasts until the settled
-- event or initialise." Reading: EXTERNAL at that moment, whatever comes after (DECISIONS 24).
unfoldable pub write_adjust : Core → ℕ → Play
write_adjust c v =
    only (with_clock (record {
      divisor = c.clock.divisor;
      nclk = v % 2 ^ 9;
      alt = bit 9 v;
      settling = c.clock.settling || (c.mode.external && not (eqb (v % 2 ^ 9) c.clock.nclk));
    }) c)

-- ---- 0Ch, BOR

-- 01: "store D0 to D5 and D8"
abbrev pub mode_of : ℕ → Mode
mode_of v = record { external = bit 4 v; enabled = bit 5 v; circular = bit 8 v }

-- 01: "D16, D17 = 0 clear those flags, 1 leaves them". Reading: 1 never sets one (DECISIONS 22).
abbrev pub lost_of : ℕ → Lost → Lost
lost_of v x = record { full = x.full && bit 16 v; closed = x.closed && bit 17 v }

-- 01: "D8 = 0 drops pending and opened; D11 = 1 .. drops pending and opened"
unfoldable pub load_kept : ℕ → Load → Load
load_kept v x = cond (bit 8 v && not (bit 11 v)) x no_load

-- 01: "if circular and not opened, pending = D9". Reading: after the steps of D8 and D11 (DECISIONS 20).
unfoldable pub load_asked : ℕ → Load → Load
load_asked v x = cond (bit 8 v && not x.opened) (record { pending = bit 9 v; opened = x.opened }) x

-- the core when the software clock is tried. 01: "D11 = 1 .. ends a burst, .. and sets the cursor to 0"
unfoldable pub buffer_of : ℕ → Core → Core
buffer_of v c =
    with_mode (mode_of v)
    (with_lost (lost_of v c.lost)
    (with_load (load_asked v (load_kept v c.load))
    (with_burst (cond (bit 11 v) no_burst c.burst)
    (with_cursor (cond (bit 11 v) 0 c.outputs.cursor) c))))

-- 01: "D7 = 1 tries a software clock". Reading: it sees the bits just written (DECISIONS 15).
unfoldable pub tried : Bool → Core → List ℕ → Play
tried asked c buf = cond asked (on_outside c buf) (only c)

-- 01: "D11 = 1 empties". Reading: the software clock then finds nothing stored, and moves nothing (DECISIONS 16).
unfoldable pub write_buffer : Core → List ℕ → ℕ → Play
write_buffer c buf v =
    cond (bit 11 v) (record { core = buffer_of v c; op = clear; moved = 0; fate = none }) (tried (bit 7 v) (buffer_of v c) buf)

-- ---- 18h

-- 01: "A write to 18h: if closed, FRAME OVERFLOW (D17) is set and the value lost; else if full, BUFFER OVERFLOW (D16); else it is
-- stored."
unfoldable pub write_data : Core → Bool → ℕ → Play
write_data c full v =
    cond (closed c) (record { core = with_lost (record { full = c.lost.full; closed = true }) c; op = keep; moved = 0; fate = lost_to_closed })
    (cond full (record { core = with_lost (record { full = true; closed = c.lost.closed }) c; op = keep; moved = 0; fate = lost_to_full })
    (record { core = c; op = store (v % value_span); moved = 0; fate = was_stored }))

-- ---- Every offset

-- 01: "A BCR write with D15 set initialises and ignores its other bits."
unfoldable pub on_write : Core → List ℕ → Bool → ℕ → ℕ → Play
on_write c buf full o v =
    cond (eqb o 0x00) (cond (bit 15 v) (initialised c.options) (write_control c v))
    (cond (eqb o 0x04) (write_mask c v)
    (cond (eqb o 0x08) (write_rate c v)
    (cond (eqb o 0x0C) (write_buffer c buf v)
    (cond (eqb o 0x18) (write_data c full v)
    (write_adjust c v)))))
