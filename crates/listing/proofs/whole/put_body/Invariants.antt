-- At each turn the events from the start of the file on are walked (specs/Draft.antt).
use Prim.Native.Nat.{◌-◌}
use mathlib.Core.Path.{◌≡◌}
use lib.ListN.{length}
use Rattle.listing.specs.Draft.{draft, Walked}
use Rattle.listing.proofs.whole.put_body.Given as goal

abbrev pub invariant-loop-event : goal.invariant-loop-event
invariant-loop-event l = (length l.memory ≡ length l.initial.memory) × (length l.out ≡ length l.initial.out)
    × Walked l.s (record { place = 0 }) (draft l.initial.reached l.initial.memory l.initial.out) l.reached.cursor (draft l.reached l.memory l.out)

abbrev pub decreases-loop-event : goal.decreases-loop-event
decreases-loop-event l = length l.s - l.reached.cursor.place
