-- The row once more, in other words than the definitions. Proofs are in proofs/.
use Rattle.std.specs.Prelude.{ℕ, ◌<◌, ◌≡◌, List, length, get_or}
use Rattle.rules.specs.declared.Board.{Board}
use Rattle.rules.specs.Record.{level_span}
use Rattle.rows.specs.Places.{level_count, row_long}
use Rattle.rows.specs.Reading.{board_at}
use Rattle.rows.specs.Writing.{board_row}

-- any record that the code can hold has these levels
pub record Twenty (levels : List ℕ) : Type 0 where
  pub long : length levels ≡ level_count
  pub low : (i : ℕ) → i < level_count → get_or levels i 0 < level_span

abbrev pub Row-length : Type 0
Row-length = (b : Board) → length b.core.outputs.levels ≡ level_count → length (board_row b) ≡ row_long

-- what is written is read back
abbrev pub Round-trip : Type 0
Round-trip = (b : Board) → Twenty b.core.outputs.levels → board_at (board_row b) ≡ b
