-- The fields, and behind them the levels, leave nothing of what was there.
use Prim.Native.Nat.{ℕ, ◌+◌, ◌≤◌}
use mathlib.Core.Path.{◌≡◌, ap, ◌∙◌}
use mathlib.Core.List.{List, [], ◌++◌, append-nil}
use native.Mathlib.Omega.{arith}
use borrow.Author.Rules.{rules}
use lib.ListN.{length, take, drop, length-drop, length-append, drop_of_length-le}
use lib.Seq.{sets-eq}
use Rattle.rows.specs.Places as places
use Rattle.rows.specs.Writing.{fields_row, board_row}
use Rattle.rows.proofs.writing.put_row.Goals as goal

pub returns : goal.returns
unfolding board_row
returns c =
    let levels = c.args.b.core.outputs.levels in
    let long : length levels ≡ places.level_count = search rules in
    let fields = fields_row c.args.b in
    let behind = drop 35 c.args.row.now in
    let row : List ℕ = fields ++ behind in
    let whole : length row ≡ 35 + length behind = length-append fields behind in
    let fits : 35 + length levels ≤ length row = omega (arith, whole, long, length-drop 35 c.args.row.now, c.told-row) in
    let over : drop (35 + length levels) row ≡ [] = drop_of_length-le row {i = 35 + length levels} (omega (arith, whole, long, length-drop 35 c.args.row.now, c.told-row)) in
    rw (c.put_levels.ensures, c.copy_from_slice.ensures.after, c.fields_of.ensures)
    (sets-eq levels row 35 fits
    ∙ ap (λ (l : List ℕ). take 35 row ++ (levels ++ l)) over
    ∙ ap (λ (l : List ℕ). fields ++ l) (append-nil levels))
