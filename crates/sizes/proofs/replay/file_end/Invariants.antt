-- The loop is on its way, and reads alone (proofs/Ends.antt).
use Prim.Native.Nat.{◌-◌}
use lib.ListN.{length}
use Rattle.sizes.proofs.Ends.{Reading}
use Rattle.sizes.proofs.replay.file_end.Given as goal

abbrev pub invariant-loop-after : goal.invariant-loop-after
invariant-loop-after l = Reading l.s l.c

abbrev pub decreases-loop-after : goal.decreases-loop-after
decreases-loop-after l = length l.s - l.c.place
