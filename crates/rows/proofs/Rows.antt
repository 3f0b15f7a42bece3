-- A record's row has 55 entries, and says the record again.
use Prim.Native.Nat.{ℕ, ◌%◌, ◌<◌}
use mathlib.Core.Path.{◌≡◌, refl, sym, ap, ◌∙◌}
use mathlib.Core.Bool.{Bool, true, false, not}
use native.Mathlib.Nat.{mod-eq_of_lt}
use native.Mathlib.Omega.{arith}
use lib.Dec.{eqb}
use lib.Seq.{ext_get_or, get_or-drop}
use Rattle.rules.specs.declared.Board.{Board}
use Rattle.rules.specs.Bits.{flag}
use Rattle.rules.specs.Record.{level_span}
use Rattle.rows.specs.Places as places
use Rattle.rows.specs.Reading.{levels_at, core_at, board_at}
use Rattle.rows.specs.Writing.{board_row}
use Rattle.rows.specs.Laws.{Twenty, Row-length, Round-trip}
use Rattle.rows.proofs.RowLevels.{row_levels_length, levels_each}

pub row_length : Row-length
unfolding board_row
row_length b h = rw h

flag_on : (t : Bool) → not (eqb (flag t) 0) ≡ t
unfolding flag
flag_on true = refl
flag_on false = refl

levels_again : (b : Board) → Twenty b.core.outputs.levels → levels_at (board_row b) ≡ b.core.outputs.levels
unfolding board_row
levels_again b h =
    let row = board_row b in
    let twenty = row_levels_length row (row_length b h.long) in
    ext_get_or 0 (levels_at row) b.core.outputs.levels (twenty ∙ sym h.long) (λ i l.
    let below : i < places.level_count = omega arith in
    levels_each row i below ∙ ap (λ (x : ℕ). x % level_span) (sym (get_or-drop places.levels row i 0)) ∙ mod-eq_of_lt (h.low i below))

pub round_trip : Round-trip
unfolding board_at core_at board_row
round_trip b h = simp (flag_on, levels_again b h) refl
