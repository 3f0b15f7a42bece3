-- `write_levels` meets its contract. The loop's invariant: with the levels that are left, the line is whole.
use Prim.Native.Nat.{ℕ, ◌+◌, ◌*◌, ◌-◌, ◌≤◌}
use mathlib.Core.List.{List}
use lib.ListN.{length, drop}
use Rattle.listing_rules.specs.Text.{levels_in}
use Rattle.file_rules.specs.Pieces.{Piece}
use Rattle.lines.proofs.whole.write_levels.Given as goal

abbrev pub invariant-loop-level : goal.invariant-loop-level
invariant-loop-level l =
    (l.p + (101 - 5 * l.level-index) ≤ length l.out)
    × ((o : List ℕ) (q : ℕ) → Piece l.out l.p (levels_in (drop l.level-index l.level-items)) o q → Piece l.initial.out l.initial.p (levels_in l.level-items) o q)
