-- Each signal plans as `signal_plan` says.
use mathlib.Core.Path.{refl}
use Rattle.plans.specs.Plan.{signal_plan}
use Rattle.plans.proofs.signals.on_signal.Goals as goal

pub returns-in-Tick : goal.returns-in-Tick
unfolding signal_plan
returns-in-Tick c = rw (c.clocks_if.ensures, c.tick_accepted.ensures.told, c.in-Tick.is) refl

pub returns-in-Outside : goal.returns-in-Outside
unfolding signal_plan
returns-in-Outside c = rw (c.clocks_if-in-Outside.ensures, c.clock_accepted.ensures, c.in-Outside.is) refl

pub returns-in-Trigger : goal.returns-in-Trigger
unfolding signal_plan
returns-in-Trigger c = rw (c.core_alone.ensures, c.on_trigger.ensures, c.in-Trigger.is) refl

pub returns-in-Passed : goal.returns-in-Passed
unfolding signal_plan
returns-in-Passed c = rw (c.core_alone-in-Passed.ensures, c.calibration_ends.ensures, c.in-Passed.is) refl

pub returns-in-Failed : goal.returns-in-Failed
unfolding signal_plan
returns-in-Failed c = rw (c.core_alone-in-Failed.ensures, c.calibration_ends-in-Failed.ensures, c.in-Failed.is) refl

pub returns-in-Settled : goal.returns-in-Settled
unfolding signal_plan
returns-in-Settled c = rw (c.core_alone-in-Settled.ensures, c.settled.ensures, c.in-Settled.is) refl
