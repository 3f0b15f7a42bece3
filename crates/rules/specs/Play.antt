-- What an event that is not refused does. The rules see the core, the stored values in order, and whether the active buffer is full:
-- no size, no place in memory, no interrupt request. So most of demand 3 holds by this definition's type.
use Rattle.std.specs.Prelude.{ℕ, Bool, true, false, ◌||◌, List}
use Rattle.rules.specs.Types.{Settings, Options, Core, Event, power_up, write, read, signal, Signal, tick, outside, trigger, passed, failed, settled}
use Rattle.rules.specs.Parts.{with_calibration, with_clock}
use Rattle.rules.specs.Clocks.{Play, only, on_tick, on_outside, on_trigger}
use Rattle.rules.specs.Writes.{initialised, on_write}

abbrev pub options_of : Settings → Options
options_of s = record { range = s.range; filter = s.filter; kit = s.kit; firmware = s.firmware }

-- 01: "A calibration end clears D13, sets "calibrated" and sets D14 on failure." Reading: a pass leaves D14 as it is (DECISIONS 25).
unfoldable pub calibration_ends : Core → Bool → Play
calibration_ends c failure =
    only (with_calibration (record {
      running = false;
      failed = c.calibration.failed || failure;
      calibrated = true;
    }) c)

-- 01: settling "lasts until the settled event or initialise"
unfoldable pub settles : Core → Play
settles c =
    only (with_clock (record {
      divisor = c.clock.divisor;
      nclk = c.clock.nclk;
      alt = c.clock.alt;
      settling = false;
    }) c)

unfoldable pub on_signal : Core → List ℕ → Signal → Play
on_signal c buf tick = on_tick c buf
on_signal c buf outside = on_outside c buf
on_signal c buf trigger = on_trigger c
on_signal c buf passed = calibration_ends c false
on_signal c buf failed = calibration_ends c true
on_signal c buf settled = settles c

-- 01 of initialise: "Power-up does the same."
unfoldable pub play : Core → List ℕ → Bool → Event → Play
play c buf full (power_up s) = initialised (options_of s)
play c buf full (write o v) = on_write c buf full o v
play c buf full (read o) = only c
play c buf full (signal s) = on_signal c buf s
