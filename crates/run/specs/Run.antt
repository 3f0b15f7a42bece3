-- One record of a session on a board and its sample memory.
--   found s c         what stands in the file s at the cursor
--   advanced s c st   that record, played on the state st
use Rattle.std.specs.Prelude.{List, ℕ}
use Rattle.rules.specs.Record.{State}
use Rattle.rules.specs.Step.{step}
use Rattle.file_rules.specs.Item.{Item}
use Rattle.file_rules.specs.Item.{Got, Over as over}
use Rattle.file_rules.specs.File.{item_at}
use Rattle.run.specs.declared.Cursor.{Cursor}
use Rattle.run.specs.Ahead.{Ahead}
use Rattle.run.specs.Ahead.{Found, Over}
use Rattle.run.specs.Ahead.{Progress}
use Rattle.run.specs.Ahead.{Played, Ended}

abbrev pub at_cursor : Item → Ahead
at_cursor (Got e place) = Found e (record { place = place })
at_cursor (over x) = Over x

abbrev pub found : List ℕ → Cursor → Ahead
found s c = at_cursor (item_at s c.place)

pub record Stage : Type 0 where
  pub progress : Progress
  pub state : State

abbrev pub on_ahead : State → Ahead → Stage
on_ahead st (Found e after) = record { progress = Played (step st e).answer after; state = (step st e).state }
on_ahead st (Over x) = record { progress = Ended x; state = st }

unfoldable pub advanced : List ℕ → Cursor → State → Stage
advanced s c st = on_ahead st (found s c)
