-- What stands at a place of a session file, and how a file ends.
--   item_of r   what the reader answers, as the item that it says
--   end_of r    how a run says that the file ended, as that end
use Rattle.std.specs.Prelude.{ℕ, Result, Ok, Err, Option, Some, None}
use Rattle.rules.specs.declared.Event.{Event}
use Rattle.file_rules.specs.declared.Fault.{Fault}
use Rattle.file_rules.specs.declared.FileError.{FileError}

-- with its last byte, or refused at the place where a record starts
pub data End : Type 0 where
  File : End
  Refused : Fault → ℕ → End

-- an event, with the place of the next record; or the end
pub data Item : Type 0 where
  Got : Event → ℕ → Item
  Over : End → Item

abbrev pub end_of : Result (Unit {0}) FileError → End
end_of (Ok _) = File
end_of (Err x) = Refused x.fault x.place

abbrev pub item_of : Result (Option (Event × ℕ)) FileError → Item
item_of (Ok (Some found)) = Got found.0 found.1
item_of (Ok None) = Over File
item_of (Err x) = Over (Refused x.fault x.place)
