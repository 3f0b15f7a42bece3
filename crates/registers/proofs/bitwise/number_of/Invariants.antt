-- The bits are gone through from the last one down.
use Rattle.registers.proofs.BitNumbers.{Reckoned}
use Rattle.registers.proofs.bitwise.number_of.Given as goal

abbrev pub invariant-loop-set : goal.invariant-loop-set
invariant-loop-set l = Reckoned l.fn.bits l.set-iterator.iter.rest.now l.n
