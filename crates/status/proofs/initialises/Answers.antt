use mathlib.Core.Path.{sym, ap}
use Rattle.rules.specs.Size.{initialises}
use Rattle.status.proofs.initialises.Goals as goal

pub returns-in-PowerUp : goal.returns-in-PowerUp
unfolding initialises
returns-in-PowerUp c = record { told = sym (ap initialises c.in-PowerUp.is) }
