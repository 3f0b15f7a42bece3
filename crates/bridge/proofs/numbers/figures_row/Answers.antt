-- By `refl`: a wrong figure is refused by its name.
use mathlib.Core.Path.{refl}
use Rattle.bridge.proofs.numbers.figures_row.Goals as goal

pub returns-in-Ok : goal.returns-in-Ok
returns-in-Ok c = rw c.in-Ok.is refl
