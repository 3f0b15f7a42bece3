-- What the reader's functions promise; of a record read, it is what `item_at` of crate `session` promises.
use Rattle.std.specs.Prelude.{ℕ, ◌≡◌, List}
use Rattle.std.specs.Borrow.{Bor}
use Rattle.reader.specs.declared.Reader.{Reader}

-- a reader of these bytes at this place
pub record Opened (s : Bor (List ℕ)) (at : ℕ) (r : Reader) : Type 0 where
  pub bytes : r.bytes ≡ s
  pub place : r.place ≡ at
