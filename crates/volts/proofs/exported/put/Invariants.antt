-- The loop writes the three numbers of one channel after another.
use Rattle.volts.proofs.Threes.{Filled}
use Rattle.volts.proofs.exported.put.Given as goal

abbrev pub invariant-loop-k : goal.invariant-loop-k
invariant-loop-k l = Filled l.initial.numbers l.channels l.k l.numbers
