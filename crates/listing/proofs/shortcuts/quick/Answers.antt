use mathlib.Core.Path.{ap}
use mathlib.Core.Bool.{Bool, ◌&&◌}
use Rattle.listing.proofs.shortcuts.quick.Goals as goal

pub returns-in-Load : goal.returns-in-Load
returns-in-Load c = rw c.in-Load.is (ap (λ (t : Bool). c.args.b.core.powered && t) c.takes.ensures)

pub returns-in-Tick : goal.returns-in-Tick
returns-in-Tick c = rw c.in-Tick.is (ap (λ (t : Bool). c.args.b.core.powered && t) c.ticks.ensures)
