use mathlib.Core.Path.{refl}
use Rattle.status.proofs.clock_ready.Goals as goal

pub returns : goal.returns
returns c = record { told = refl }
