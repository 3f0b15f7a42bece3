-- The plan of an event that is not refused: the core that it leaves before a value moves, and what then comes of the stored values.
--   core_alone c      the core becomes c, and nothing comes of the stored values
--   initial_plan o    initialise and power-up, with the options o
--   buffer_plan c v   the write of v to 0Ch
--   write_plan c o v  the write of v to the offset o; a write that 01 refuses never comes here
--   signal_plan c x   a clock, a trigger, the end of a calibration or of settling
--   planned c e      every event
use Rattle.std.specs.Prelude.{ℕ, true, false, cond, ◌&&◌, eqb}
use Rattle.rules.specs.declared.Options.{Options}
use Rattle.rules.specs.declared.Core.{Core}
use Rattle.rules.specs.declared.Signal.{Signal}
use Rattle.rules.specs.declared.Signal.TheVariants.{Tick as tick, Outside as outside, Trigger as trigger}
use Rattle.rules.specs.declared.Signal.TheVariants.{Passed as passed, Failed as failed, Settled as settled}
use Rattle.rules.specs.declared.Event.{Event}
use Rattle.rules.specs.declared.Event.TheVariants.{PowerUp as power_up, Write as write, Read as read, Signal as signal}
use Rattle.plans.specs.declared.Act.TheVariants.{Nothing, Empties, Loads}
use Rattle.plans.specs.declared.Plan.{Plan}
use Rattle.plans.specs.Parts.{core_of, buffer_act, clocks_if}
use Rattle.rules.specs.Bits.{bit}
use Rattle.rules.specs.Clocks.{tick_accepted, clock_accepted, on_trigger}
use Rattle.rules.specs.Writes.{initial, buffer_of}
use Rattle.rules.specs.Play.{options_of, calibration_ends, settles}

abbrev pub core_alone : Core → Plan
core_alone c = record { core = c; act = Nothing }

-- 01: "Initialise: .. empty buffer .."
abbrev pub initial_plan : Options → Plan
initial_plan o = record { core = initial o; act = Empties }

-- ---- Writes

-- 01: "D11 = 1 empties .."; "D7 = 1 tries a software clock", which sees the bits just written (DECISIONS 15)
unfoldable pub buffer_plan : Core → ℕ → Plan
buffer_plan c v = record { core = buffer_of v c; act = buffer_act v (clock_accepted (buffer_of v c)) }

-- 01: "A BCR write with D15 set initialises and ignores its other bits." Whether a value written to 18h is stored or lost is no part of
-- the plan: it is known once the plan is carried out.
unfoldable pub write_plan : Core → ℕ → ℕ → Plan
write_plan c o v =
    cond (eqb o 0x0C) (buffer_plan c v)
    (cond (eqb o 0x18) (record { core = c; act = Loads v })
    (cond (eqb o 0x00 && bit 15 v) (initial_plan c.options)
    (core_alone (core_of c o v))))

-- ---- Signals

-- 01: "Clocks and triggers that are not accepted answer 0 and change nothing."
unfoldable pub signal_plan : Core → Signal → Plan
signal_plan c tick = record { core = c; act = clocks_if (tick_accepted c) }
signal_plan c outside = record { core = c; act = clocks_if (clock_accepted c) }
signal_plan c trigger = core_alone (on_trigger c).core
signal_plan c passed = core_alone (calibration_ends c false).core
signal_plan c failed = core_alone (calibration_ends c true).core
signal_plan c settled = core_alone (settles c).core

-- ---- Every event

-- 01 of initialise: "Power-up does the same."
unfoldable pub planned : Core → Event → Plan
planned c (power_up x) = initial_plan (options_of x)
planned c (write o v) = write_plan c o v
planned c (read o) = core_alone c
planned c (signal x) = signal_plan c x
