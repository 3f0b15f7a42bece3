-- `values` meets its contract: the numbers that are chosen are no more than the recording has.
use Prim.Native.Nat.{ℕ, suc, ◌+◌, ◌*◌, ◌-◌}
use mathlib.Core.Path.{◌≡◌, ap}
use native.Mathlib.Omega.{arith}
use lib.Count.{ones}
use Rattle.writer.proofs.GoodOrders.{values_small}
use Rattle.writer.proofs.order.Order.values.Goals as goal

pub overflow_mul-result : goal.overflow_mul-result
overflow_mul-result c =
    let q = c.args.self.now in
    let many : q.last - q.first + 1 ≡ suc q.last - q.first = omega (arith, c.requires.choice.forward) in
    omega (arith, values_small c.requires, ap (λ (n : ℕ). n * ones q.mask) many)
