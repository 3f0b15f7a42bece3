use mathlib.Core.Path.{refl}
use Rattle.status.proofs.burst_ready.Goals as goal

pub returns : goal.returns
returns c = record { told = refl }
