-- `put_cut` meets its contract. The loop's invariant: with the loads of the groups that are left, the session is whole.
use Rattle.writer.specs.Orders.{order_of}
use Rattle.writer.proofs.Cutting.{Cutting}
use Rattle.writer.proofs.loads.put_cut.Given as goal

abbrev pub invariant-loop-group : goal.invariant-loop-group
invariant-loop-group l =
    Cutting (order_of l.order) l.end l.initial.out l.initial.to l.out l.to l.group-iterator.rest.now l.group-iterator.size
