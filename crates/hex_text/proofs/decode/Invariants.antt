-- At each turn the bytes done stand in the output, and the reading from the place on is what is left.
use Prim.Native.Nat.{◌-◌}
use lib.ListN.{length}
use Rattle.hex_text.proofs.Rests.{Sofar}
use Rattle.hex_text.proofs.decode.Given as goal

abbrev pub invariant-loop-at : goal.invariant-loop-at
invariant-loop-at l = Sofar l.text l.initial.out l.out l.at l.comment l.n

abbrev pub decreases-loop-at : goal.decreases-loop-at
decreases-loop-at l = length l.text - l.at
