-- The channels below the place have what they have right after an accepted power-up.
use Prim.Native.Nat.{ℕ}
use lib.ListN.{get_or}
use Rattle.volt_rules.specs.Volts.{volts_of}
use Rattle.volts.specs.Watching.{at_once}
use Rattle.volts.proofs.Entries.{Upto}
use Rattle.volts.proofs.running.start_all.Given as goal

abbrev pub invariant-loop-k : goal.invariant-loop-k
invariant-loop-k l = Upto l.initial.channels (λ (j : ℕ). at_once (volts_of l.range (get_or l.levels j 0))) l.k l.channels
