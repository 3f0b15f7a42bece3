-- A kit has a channel, so that its mask has a limit above 0.
use native.Mathlib.Omega.{arith}
use Rattle.record.proofs.Limits.{limit_least}
use Rattle.plans.proofs.writes.initial.Goals as goal

pub overflow_sub-result : goal.overflow_sub-result
overflow_sub-result c = omega (arith, limit_least _ _ c.mask_limit.ensures)
