use mathlib.Core.Path.{◌≡◌, refl}
use mathlib.Core.Bool.{Bool, true, false, not, ◌||◌}
use Rattle.rules.specs.Bits.{only_if}
use Rattle.soundness.proofs.clauses.only_if.Goals as goal

implied : (a b : Bool) → not a || b ≡ only_if a b
unfolding only_if
implied true b = refl
implied false b = refl

pub returns : goal.returns
returns c = implied c.args.a c.args.b
