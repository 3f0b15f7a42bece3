use Prim.Native.Nat.{◌<◌}
use mathlib.Core.Path.{◌∙◌}
use native.Mathlib.Omega.{arith}
use Rattle.channels.proofs.Ones.{channels_below}
use Rattle.writer.proofs.Grouping.{channel_small, load_inside, load_fits, grouping_next, grouping_over}
use Rattle.writer.proofs.loads.put_group.Goals as goal

pub loop-k-init : goal.loop-k-init
loop-k-init c =
    rw (c.into_iter-k-iterator.ensures.into_iter_gives ∙ c.of-k-items.ensures)
    (record { small = channels_below c.args.mask; inside = c.requires.inside; room = c.requires.room; whole = λ o p r. r })

pub offset_bounds-group-k : goal.offset_bounds-group-k
offset_bounds-group-k c =
    let small : c.in-Some.k < 20 = channel_small c.loop-k.invariant _ _ c.in-Some.ensures.steps in
    omega (arith, small)

pub bounds-group-k : goal.bounds-group-k
bounds-group-k c = load_inside c.loop-k.invariant _ _ c.in-Some.ensures.steps

pub put_load-at-requires : goal.put_load-at-requires
put_load-at-requires c = load_fits c.loop-k.invariant _ _ c.in-Some.ensures.steps

pub loop-k-preserved : goal.loop-k-preserved
loop-k-preserved c = grouping_next c.loop-k.invariant _ _ c.in-Some.ensures.steps _ _ c.put_load-at.ensures

pub returns : goal.returns
returns c = grouping_over c.loop-k.invariant c.in-None.ensures.steps.0
