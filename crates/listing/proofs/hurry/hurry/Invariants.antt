-- At each turn the events from the start of the loop on are passed (specs/Draft.antt).
use Prim.Native.Nat.{◌-◌}
use mathlib.Core.Path.{◌≡◌}
use lib.ListN.{length}
use Rattle.listing.specs.Draft.{board_now, draft, Walked}
use Rattle.listing.proofs.hurry.hurry.Given as goal

abbrev pub invariant-loop-common : goal.invariant-loop-common
invariant-loop-common l = (length l.memory ≡ length l.initial.memory) × (length l.out ≡ length l.initial.out)
    × Walked l.s l.initial.cursor (draft l.fn.start l.initial.memory l.initial.out) l.cursor (draft (record { cursor = l.cursor; board = board_now l.b l.core l.levels l.ring; at = l.at; number = l.number }) l.memory l.out)

abbrev pub decreases-loop-common : goal.decreases-loop-common
decreases-loop-common l = length l.s - l.cursor.place
