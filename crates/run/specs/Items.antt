-- A session as a loop over it meets it, item by item.
--   items_of x   its events, and then why it is refused, where it is
--   left s c     those from the cursor c of the file s on; none once the end was told
use Rattle.std.specs.Prelude.{ℕ, suc, List, [], ◌∷◌, length, Result, Ok, Err, Option, Some, None}
use Rattle.rules.specs.declared.Event.{Event}
use Rattle.file_rules.specs.declared.FileError.{FileError}
use Rattle.file_rules.specs.Item.{End, File, Refused}
use Rattle.file_rules.specs.File.{Session, from}
use Rattle.run.specs.declared.Cursor.{Cursor}

abbrev pub ending : End → List (Result Event FileError)
ending File = []
ending (Refused why p) = Err (record { fault = why; place = p }) ∷ []

unfoldable pub met : List Event → End → List (Result Event FileError)
met [] x = ending x
met (e ∷ es) x = Ok e ∷ met es x

abbrev pub items_of : Session → List (Result Event FileError)
items_of x = met x.events x.end

abbrev pub left : List ℕ → Option Cursor → List (Result Event FileError)
left s None = []
left s (Some c) = items_of (from (suc (length s)) s c.place)
