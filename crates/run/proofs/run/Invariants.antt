-- The loop is on its way (specs/Way.antt) with the state that it holds.
use mathlib.Core.Path.{◌≡◌}
use Prim.Native.Nat.{◌-◌}
use lib.ListN.{length}
use Rattle.rules.specs.Record.{state_of, start}
use Rattle.run.specs.Way.{Way}
use Rattle.run.proofs.Leaves.{Leaves}
use Rattle.run.proofs.run.Given as goal

abbrev pub invariant-loop-after : goal.invariant-loop-after
invariant-loop-after l = (length l.memory ≡ length l.initial.memory) × Way Leaves l.s (start l.initial.memory) (state_of l.board l.memory) l.c

abbrev pub decreases-loop-after : goal.decreases-loop-after
decreases-loop-after l = length l.s - l.c.place
