-- What the two functions of the crate promise.
--   told_of row         the record that is read
--   row_written b row   the row after writing
use Rattle.std.specs.Prelude.{ℕ, ◌≡◌, cond, List, eqb, length, Result}
use Rattle.std.specs.Result.{is_ok}
use Rattle.rules.specs.declared.Board.{Board}
use Rattle.rules.specs.Record.{unpowered}
use Rattle.rows.specs.declared.WrongLength.{WrongLength}
use Rattle.rows.specs.Places.{row_long}
use Rattle.rows.specs.Reading.{board_at}
use Rattle.rows.specs.Writing.{board_row}

-- ---- board_at

-- a row of 55 numbers is read; any other is not understood, and reads as the unpowered record
unfoldable pub told_of : List ℕ → Board
told_of row = cond (eqb (length row) row_long) (board_at row) unpowered

-- ---- put_board

-- a row of 55 numbers holds the record afterwards; any other is as it was
unfoldable pub row_written : Board → List ℕ → List ℕ
row_written b row = cond (eqb (length row) row_long) (board_row b) row

-- put_board(b, row) = r, and the row is row' afterwards
pub record Put (b : Board) (row : List ℕ) (r : Result (Unit {0}) WrongLength) (row' : List ℕ) : Type 0 where
  pub understood : is_ok r ≡ eqb (length row) row_long
  pub left : row' ≡ row_written b row
