-- Any two outcomes that a promise allows are equal. (For a record read, `ToldInNumbers-unique` of crate `rules` says it.)
use Rattle.std.specs.Prelude.{ℕ, ◌≡◌, List}
use Rattle.std.specs.Borrow.{Bor}
use Rattle.reader.specs.declared.Reader.{Reader}
use Rattle.reader.specs.Promises.{Opened}

abbrev pub Opened-unique : Type 0
Opened-unique = (bytes : Bor (List ℕ)) (place : ℕ) (r r' : Reader) → Opened bytes place r → Opened bytes place r' → r ≡ r'
