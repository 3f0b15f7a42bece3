-- The loop is on its way with the table of what counted so far (proofs/Tabling.antt).
use Prim.Native.Nat.{◌-◌}
use lib.ListN.{length}
use Rattle.volts.proofs.Tabling.{Running}
use Rattle.volts.proofs.running.Observed.observe_all.Given as goal

abbrev pub invariant-loop-e : goal.invariant-loop-e
invariant-loop-e l = Running l.s l.initial.memory l.memory l.self l.c

abbrev pub decreases-loop-e : goal.decreases-loop-e
decreases-loop-e l = length l.s - l.c.place
