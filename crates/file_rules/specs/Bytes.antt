-- The bytes of an event and of a file of events (01, "Session file and listing").
--   kind_of e     the kind of an event's record
--   bytes_of e    its record: length, kind, fields
--   file_of es    the session file of these events
--   Fits e       every field fits the bytes that it has
use Rattle.std.specs.Prelude.{ℕ, ◌/◌, ◌%◌, ◌^◌, ◌<◌, List, [], ◌∷◌, ◌++◌, length}
use Rattle.rules.specs.declared.Event.{Event}
use Rattle.rules.specs.declared.Event.TheVariants.{PowerUp as power_up, Write as write, Read as read, Signal as signal}
use Rattle.rules.specs.declared.Signal.{Signal}
use Rattle.rules.specs.declared.Signal.TheVariants.{Tick as tick, Outside as outside, Trigger as trigger}
use Rattle.rules.specs.declared.Signal.TheVariants.{Passed as passed, Failed as failed, Settled as settled}

-- 01: "4 tick, 5 outside clock, 6 trigger, 7 calibration passed, 8 failed, 9 settled"
abbrev pub signal_kind : Signal → ℕ
signal_kind tick = 4
signal_kind outside = 5
signal_kind trigger = 6
signal_kind passed = 7
signal_kind failed = 8
signal_kind settled = 9

-- 01: "1 power-up ..; 2 write ..; 3 read .."
abbrev pub kind_of : Event → ℕ
kind_of (power_up x) = 1
kind_of (write o v) = 2
kind_of (read o) = 3
kind_of (signal x) = signal_kind x

-- "in two bytes", "in four", big-endian
abbrev pub two : ℕ → List ℕ
two n = n / 256 % 256 ∷ n % 256 ∷ []

abbrev pub four : ℕ → List ℕ
four n = two (n / 65536) ++ two (n % 65536)

-- 01: "power-up (d, range, filter, kit, firmware in two bytes)"; "write (offset, value in four)"; "read (offset)"
abbrev pub fields_of : Event → List ℕ
fields_of (power_up x) = x.fitted ∷ x.range ∷ x.filter ∷ x.kit ∷ two x.firmware
fields_of (write o v) = o ∷ four v
fields_of (read o) = o ∷ []
fields_of (signal x) = []

-- 01: "two-byte big-endian length of what follows, kind, fields"
abbrev pub bytes_of : Event → List ℕ
bytes_of e = two (length (kind_of e ∷ fields_of e)) ++ kind_of e ∷ fields_of e

unfoldable pub records_of : List Event → List ℕ
records_of [] = []
records_of (e ∷ es) = bytes_of e ++ records_of es

-- 01: "Byte 01, then records"
unfoldable pub file_of : List Event → List ℕ
file_of es = 1 ∷ records_of es

-- ---- What fits

abbrev pub Fits : Event → Type 0
Fits (power_up x) = (x.fitted < 256) × (x.range < 256) × (x.filter < 256) × (x.kit < 256) × (x.firmware < 65536)
Fits (write o v) = (o < 256) × (v < 2 ^ 32)
Fits (read o) = o < 256
Fits (signal x) = Unit {0}

pub data AllFit : List Event → Type 0 where
  none : AllFit []
  next : {e : Event} {es : List Event} → Fits e → AllFit es → AllFit (e ∷ es)
