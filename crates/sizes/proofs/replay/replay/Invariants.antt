-- The loop is on its way with the board that it holds (proofs/Replays.antt).
use Prim.Native.Nat.{◌-◌}
use lib.ListN.{length}
use Rattle.sizes.proofs.Replays.{Replaying}
use Rattle.sizes.proofs.replay.replay.Given as goal

abbrev pub invariant-loop-e : goal.invariant-loop-e
invariant-loop-e l = Replaying l.code l.s l.initial.memory l.memory l.b l.c l.whole

abbrev pub decreases-loop-e : goal.decreases-loop-e
decreases-loop-e l = length l.s - l.c.place
