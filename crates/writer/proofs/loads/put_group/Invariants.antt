-- `put_group` meets its contract. The loop's invariant: with the loads of the channels that are left, those of the group are whole.
use Rattle.rules.specs.Bits.{active_from}
use Rattle.writer.proofs.Grouping.{Grouping}
use Rattle.writer.proofs.loads.put_group.Given as goal

abbrev pub invariant-loop-k : goal.invariant-loop-k
invariant-loop-k l = Grouping l.group (active_from 0 l.mask) l.end l.initial.out l.to l.out l.at l.k-iterator
