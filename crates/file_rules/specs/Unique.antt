-- An item and an end say all that the reader's answer says: two answers of one item, or of one end, are equal. So a promise that fixes the
-- item fixes the answer. Proofs are in proofs/Unique.antt.
use Rattle.std.specs.Prelude.{ℕ, ◌≡◌, Result, Option}
use Rattle.rules.specs.declared.Event.{Event}
use Rattle.file_rules.specs.declared.FileError.{FileError}
use Rattle.file_rules.specs.Item.{item_of, end_of}

abbrev pub Item-unique : Type 0
Item-unique = (r r' : Result (Option (Event × ℕ)) FileError) → item_of r ≡ item_of r' → r ≡ r'

abbrev pub End-unique : Type 0
End-unique = (r r' : Result (Unit {0}) FileError) → end_of r ≡ end_of r' → r ≡ r'
