-- An event as a row of six numbers: its kind, as in a session file, and up to five fields, 0 where the kind has none.
--   1 power-up: fitted, range, filter, kit, firmware    2 write: offset, value    3 read: offset
--   4 tick   5 outside clock   6 trigger   7 calibration passed   8 calibration failed   9 settled
use Rattle.std.specs.Prelude.{ℕ, List, [], ◌∷◌, get_or}
use Rattle.rules.specs.declared.Event.{Event}
use Rattle.rules.specs.declared.Event.TheVariants.{PowerUp as power_up, Write as write, Read as read, Signal as signal}
use Rattle.file_rules.specs.File.{event_of}
use Rattle.file_rules.specs.Bytes.{signal_kind}

abbrev pub row_of : Event → List ℕ
row_of (power_up x) = 1 ∷ x.fitted ∷ x.range ∷ x.filter ∷ x.kit ∷ x.firmware ∷ []
row_of (write o v) = 2 ∷ o ∷ v ∷ 0 ∷ 0 ∷ 0 ∷ []
row_of (read o) = 3 ∷ o ∷ 0 ∷ 0 ∷ 0 ∷ 0 ∷ []
row_of (signal x) = signal_kind x ∷ 0 ∷ 0 ∷ 0 ∷ 0 ∷ 0 ∷ []

abbrev pub field : List ℕ → ℕ → ℕ
field r k = get_or r k 0

-- the event of a row of a known kind; `event_of` is given the fields of an access and those of a power-up both
abbrev pub event_of_row : List ℕ → Event
event_of_row r =
    event_of (field r 0) (field r 1) (field r 2)
    (record { fitted = field r 1; range = field r 2; filter = field r 3; kit = field r 4; firmware = field r 5 })
