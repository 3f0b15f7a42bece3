-- What stands at a cursor, and one record played.
--   ahead_of r      what `next` answers, as what stands ahead
--   progress_of r   what `advance` answers, as the record that it played
use Rattle.std.specs.Prelude.{Result, Ok, Err, Option, Some, None}
use Rattle.rules.specs.Types.{Answer}
use Rattle.rules.specs.declared.Event.{Event}
use Rattle.rules.specs.declared.Done.{Done}
use Rattle.rules.specs.declared.Refusal.{Refusal}
use Rattle.rules.specs.Numbered.{answer_of}
use Rattle.file_rules.specs.declared.FileError.{FileError}
use Rattle.file_rules.specs.Item.{End, File, Refused}
use Rattle.run.specs.declared.Cursor.{Cursor}

-- an event, and the cursor after it; or how the file ends
pub data Ahead : Type 0 where
  Found : Event → Cursor → Ahead
  Over : End → Ahead

-- the event's answer and the cursor after it; or how the file ends
pub data Progress : Type 0 where
  Played : Answer → Cursor → Progress
  Ended : End → Progress

abbrev pub ahead_of : Result (Option (Event × Cursor)) FileError → Ahead
ahead_of (Ok (Some found)) = Found found.0 found.1
ahead_of (Ok None) = Over File
ahead_of (Err x) = Over (Refused x.fault x.place)

abbrev pub progress_of : Result (Option (Result Done Refusal × Cursor)) FileError → Progress
progress_of (Ok (Some played)) = Played (answer_of played.0) played.1
progress_of (Ok None) = Ended File
progress_of (Err x) = Ended (Refused x.fault x.place)
