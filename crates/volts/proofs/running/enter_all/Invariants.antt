-- The channels below the place are entered, the others are as they were.
use Prim.Native.Nat.{ℕ}
use lib.ListN.{get_or}
use Rattle.volt_rules.specs.Volts.{volts_of}
use Rattle.volts.specs.Watching.{no_channel, entered}
use Rattle.volts.proofs.Entries.{Upto}
use Rattle.volts.proofs.running.enter_all.Given as goal

abbrev pub invariant-loop-k : goal.invariant-loop-k
invariant-loop-k l =
    let was = l.initial.channels in
    Upto was (λ (j : ℕ). entered (get_or was j no_channel) (volts_of l.range (get_or l.levels j 0))) l.k l.channels
