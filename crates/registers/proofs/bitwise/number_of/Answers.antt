use native.Mathlib.Omega.{arith}
use Rattle.registers.proofs.BitNumbers.{reckoned_start, reckoned_more, reckoned_fits, reckoned_all, byte_small}
use Rattle.registers.proofs.bitwise.number_of.Goals as goal

pub loop-set-init : goal.loop-set-init
loop-set-init c =
    rw (c.into_iter-set-iterator.ensures.into_iter_gives, c.rev-set-items.ensures.source, c.iter.ensures.rest) (reckoned_start c.args.bits.now)

pub overflow_mul-n : goal.overflow_mul-n
overflow_mul-n c = omega (arith, reckoned_fits c.loop-set.invariant _ _ c.in-Some.ensures.steps c.requires)

pub overflow_add-n : goal.overflow_add-n
overflow_add-n c =
    omega (arith, reckoned_fits c.loop-set.invariant _ _ c.in-Some.ensures.steps c.requires, byte_small _ _ c.from.ensures)

pub loop-set-preserved : goal.loop-set-preserved
loop-set-preserved c = reckoned_more c.loop-set.invariant _ _ c.in-Some.ensures.steps _ c.from.ensures

pub returns : goal.returns
returns c = reckoned_all c.loop-set.invariant c.in-None.ensures.steps.0
