-- Why a call is not understood, and what is answered then, in numbers. 01: "For an answer that is an enum, a definition provides this
-- paper's number and values for each of the enum's cases. The promises use this definition."
--   status_number r    0 for a call that is understood, else the number of why it is not
--   EventRead row r    r is the event of the row, or none where no event has its kind
use Rattle.std.specs.Prelude.{ℕ, ◌≡◌, true, false, List, Result, Ok, Err}
use Rattle.kinds.specs.declared.UnknownKind.{UnknownKind}
use Rattle.file_rules.specs.Row.{field, event_of_row}
use Rattle.bridge.specs.Types.{Event}
use Rattle.bridge.specs.Calls.{no_kind}
use Rattle.bridge.specs.declared.misfit.Misfit.{Misfit}
use Rattle.bridge.specs.declared.misfit.Misfit.TheVariants.{Record, Event as OfEvent, Room, Kind}

abbrev pub misfit_number : Misfit → ℕ
misfit_number Record = 1
misfit_number OfEvent = 2
misfit_number Room = 3
misfit_number Kind = 4

abbrev pub status_number : Result (Unit {0}) Misfit → ℕ
status_number (Ok _) = 0
status_number (Err why) = misfit_number why

abbrev pub EventRead : List ℕ → Result Event UnknownKind → Type 0
EventRead row (Ok e) = (no_kind (field row 0) ≡ false) × (e ≡ event_of_row row)
EventRead row (Err _) = no_kind (field row 0) ≡ true
