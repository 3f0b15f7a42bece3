use native.Mathlib.Omega.{arith}
use Rattle.volts.proofs.Threes.{filled_none, filled_next, filled_all}
use Rattle.volts.proofs.exported.put.Goals as goal

pub loop-k-init : goal.loop-k-init
loop-k-init c = filled_none _ _ c.told-numbers c.told-channels

pub loop-k-preserved : goal.loop-k-preserved
loop-k-preserved c = filled_next c.loop-k.invariant c.loop-k-test.true _ _ (omega arith) c.copy_from_slice.ensures.after

pub returns : goal.returns
returns c = filled_all c.loop-k.invariant (omega (arith, c.loop-k-test.false, c.loop-k.auto.k-end))
