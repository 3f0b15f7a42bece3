use mathlib.Core.Path.{◌≡◌}
use native.Mathlib.Omega.{arith}
use borrow.Author.Rules.{rules}
use lib.ListN.{length}
use Rattle.rows.specs.Places as places
use Rattle.rows.proofs.Stores.{stored_none, stored_next, stored_all}
use Rattle.rows.proofs.writing.put_levels.Goals as goal

pub loop-i-init : goal.loop-i-init
loop-i-init c = let long : length c.args.levels ≡ places.level_count = search rules in stored_none _ _ _ (omega (arith, long, c.told-row))

pub loop-i-preserved : goal.loop-i-preserved
loop-i-preserved c =
    let long : length c.args.levels ≡ places.level_count = search rules in
    stored_next c.loop-i.invariant (omega (arith, long, c.loop-i-test.true)) _ c.from.ensures

pub returns : goal.returns
returns c =
    let long : length c.args.levels ≡ places.level_count = search rules in
    stored_all c.loop-i.invariant (omega (arith, long, c.loop-i-test.false))
