-- A core with one part put anew: the rules say what changes, and these say that the rest stays.
--   with_burst x c, ..            the core c with x for its burst, and so for each part
--   no_burst, no_load, no_loss    the states that an initialise leaves
use Rattle.std.specs.Prelude.{ℕ, false}
use Rattle.rules.specs.Types.{Control, Mode, Calibration, Clock, Burst, Load, Lost, Outputs, Core}

abbrev pub no_burst : Burst
no_burst = record { running = false; software = false }

abbrev pub no_load : Load
no_load = record { pending = false; opened = false }

abbrev pub no_loss : Lost
no_loss = record { full = false; closed = false }

-- the core c with these for its parts; power and options stay
abbrev pub remade : Core → Control → Mode → Calibration → Clock → Burst → Load → Lost → Outputs → Core
remade c control mode calibration clock burst load lost outputs =
    record {
      powered = c.powered;
      options = c.options;
      control = control;
      mode = mode;
      calibration = calibration;
      clock = clock;
      burst = burst;
      load = load;
      lost = lost;
      outputs = outputs;
    }

abbrev pub with_control : Control → Core → Core
with_control x c = remade c x c.mode c.calibration c.clock c.burst c.load c.lost c.outputs

abbrev pub with_mode : Mode → Core → Core
with_mode x c = remade c c.control x c.calibration c.clock c.burst c.load c.lost c.outputs

abbrev pub with_calibration : Calibration → Core → Core
with_calibration x c = remade c c.control c.mode x c.clock c.burst c.load c.lost c.outputs

abbrev pub with_clock : Clock → Core → Core
with_clock x c = remade c c.control c.mode c.calibration x c.burst c.load c.lost c.outputs

abbrev pub with_burst : Burst → Core → Core
with_burst x c = remade c c.control c.mode c.calibration c.clock x c.load c.lost c.outputs

abbrev pub with_load : Load → Core → Core
with_load x c = remade c c.control c.mode c.calibration c.clock c.burst x c.lost c.outputs

abbrev pub with_lost : Lost → Core → Core
with_lost x c = remade c c.control c.mode c.calibration c.clock c.burst c.load x c.outputs

abbrev pub with_outputs : Outputs → Core → Core
with_outputs x c = remade c c.control c.mode c.calibration c.clock c.burst c.load c.lost x

abbrev pub with_cursor : ℕ → Core → Core
with_cursor n c = with_outputs (record { mask = c.outputs.mask; cursor = n; levels = c.outputs.levels }) c
