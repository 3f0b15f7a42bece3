-- The invariant is `Inv`: to deal to the channels that are left from here is to deal to all from the start.
use Rattle.rules.specs.Bits.{bit}
use Rattle.moves.specs.Deal.{dealing}
use Rattle.moves.proofs.Loop.{Inv}
use Rattle.moves.proofs.deal.Given as goal

abbrev pub invariant-loop-k : goal.invariant-loop-k
invariant-loop-k l = Inv l.initial.k-iterator l.binary l.again l.d (dealing l.initial.levels l.initial.ring (bit 16 l.initial.marks) l.initial.memory) (dealing l.levels l.ring (bit 16 l.marks) l.memory) l.k-iterator
