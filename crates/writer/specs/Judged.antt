-- What is found of rows that are good, and how many bytes the fields of their records have.
use Rattle.std.specs.Prelude.{ℕ, ◌+◌, ◌*◌, ◌≤◌, ◌≡◌, List, map, length}
use Rattle.file_rules.specs.Bytes.{bytes_of, records_of}
use Rattle.file_rules.specs.Row.{event_of_row}
use Rattle.file_rules.specs.Writing.{row_refusal, first_bad}

pub record GoodRow (r : List ℕ) (fields : ℕ) : Type 0 where
  pub good : row_refusal r ≡ 0
  pub small : fields ≤ 6
  pub long : length (bytes_of (event_of_row r)) ≡ 3 + fields

pub record GoodRows (rs : List (List ℕ)) (fields : ℕ) : Type 0 where
  pub good : first_bad rs ≡ 0
  pub long : length (records_of (map event_of_row rs)) ≡ 3 * length rs + fields
