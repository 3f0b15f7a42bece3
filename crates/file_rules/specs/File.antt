-- A session file: what stands at a place of it, which events it holds, and how it ends (01, "Session file and listing").
--   item_at s at   the record at a place: an event and the next place, or how the file ends there; place 0 is the start of the file
--   session s     the events that stand in the file, in order, and how they end
--   verdict e     that end in numbers
--   Rest s at x   x is the session from a place on
use Rattle.std.specs.Prelude.{ℕ, zero, suc, ◌+◌, ◌*◌, ◌≤◌, ◌<◌, ◌≡◌, cond, List, [], ◌∷◌, leb, ltb, eqb, length, get_or}
use Rattle.rules.specs.declared.Settings.{Settings}
use Rattle.rules.specs.declared.Event.{Event}
use Rattle.rules.specs.declared.Event.TheVariants.{PowerUp as power_up, Write as write, Read as read, Signal as signal}
use Rattle.rules.specs.declared.Signal.{Signal}
use Rattle.rules.specs.declared.Signal.TheVariants.{Tick as tick, Outside as outside, Trigger as trigger}
use Rattle.rules.specs.declared.Signal.TheVariants.{Passed as passed, Failed as failed, Settled as settled}
use Rattle.file_rules.specs.declared.Fault.{Fault}
use Rattle.file_rules.specs.declared.Fault.TheVariants.{Version as version, Cut as cut, Length as wrong_length, Kind as unknown_kind}
use Rattle.file_rules.specs.Item.{End}
use Rattle.file_rules.specs.Item.{File as file_end, Refused as refused_at}
use Rattle.file_rules.specs.Item.{Item}
use Rattle.file_rules.specs.Item.{Got as got, Over as over}

-- ---- Numbers

-- 01: "10 session file empty or its first byte not 01", "11 file ends inside a record", "12 record length wrong for its kind, or 0",
-- "13 unknown record kind"
unfoldable pub fault_number : Fault → ℕ
fault_number version = 10
fault_number cut = 11
fault_number wrong_length = 12
fault_number unknown_kind = 13

-- how a file ends, in numbers: 01's refusal number, 0 where it ends with its last byte, and "p: byte where the record starts"
pub record Verdict : Type 0 where
  pub number : ℕ
  pub place : ℕ

abbrev pub verdict : End → Verdict
verdict file_end = record { number = 0; place = 0 }
verdict (refused_at why p) = record { number = fault_number why; place = p }

-- ---- Bytes

abbrev pub byte_at : List ℕ → ℕ → ℕ
byte_at s at = get_or s at 0

-- big-endian
abbrev pub word_at : List ℕ → ℕ → ℕ
word_at s at = 256 * byte_at s at + byte_at s (at + 1)

abbrev pub quad_at : List ℕ → ℕ → ℕ
quad_at s at = 65536 * word_at s at + word_at s (at + 2)

-- ---- Records

-- 01: "Kinds and lengths: 1 power-up .. 7; 2 write .. 6; 3 read .. 2; 4 tick, .. 9 settled, 1 each"; 0 where there is no such kind
unfoldable pub length_of : ℕ → ℕ
length_of kind =
    cond (eqb kind 1) 7
    (cond (eqb kind 2) 6
    (cond (eqb kind 3) 2
    (cond (leb 4 kind) (cond (leb kind 9) 1 0) 0)))

-- 01: "4 tick, 5 outside clock, 6 trigger, 7 calibration passed, 8 failed, 9 settled"
unfoldable pub signal_of : ℕ → Signal
signal_of kind =
    cond (eqb kind 4) tick
    (cond (eqb kind 5) outside
    (cond (eqb kind 6) trigger
    (cond (eqb kind 7) passed
    (cond (eqb kind 8) failed settled))))

-- "d, range, filter, kit, firmware in two bytes"
abbrev pub settings_at : List ℕ → ℕ → Settings
settings_at s at =
    record {
      fitted = byte_at s at;
      range = byte_at s (at + 1);
      filter = byte_at s (at + 2);
      kit = byte_at s (at + 3);
      firmware = word_at s (at + 4);
    }

-- the event of a kind: "1 power-up (..)", "2 write (offset, value ..)", "3 read (offset)", and the signals
unfoldable pub event_of : ℕ → ℕ → ℕ → Settings → Event
event_of kind offset value settings =
    cond (eqb kind 1) (power_up settings)
    (cond (eqb kind 2) (write offset value)
    (cond (eqb kind 3) (read offset) (signal (signal_of kind))))

-- whose kind stands at a place: "(offset, value in four)"
unfoldable pub event_at : List ℕ → ℕ → Event
event_at s at = event_of (byte_at s at) (byte_at s (at + 1)) (quad_at s (at + 2)) (settings_at s (at + 1))

-- of a record that is whole: "length 0 (12), 13, 12"
unfoldable pub whole_record : List ℕ → ℕ → Item
whole_record s at =
    cond (eqb (word_at s at) 0) (over (refused_at wrong_length at))
    (cond (eqb (length_of (byte_at s (at + 2))) 0) (over (refused_at unknown_kind at))
    (cond (eqb (word_at s at) (length_of (byte_at s (at + 2)))) (got (event_at s (at + 2)) (at + 2 + word_at s at))
    (over (refused_at wrong_length at))))

-- 01: "then per record 11, length 0 (12), 13, 12"
unfoldable pub record_at : List ℕ → ℕ → Item
record_at s at =
    cond (leb (length s) at) (over file_end)
    (cond (ltb (length s) (at + 2)) (over (refused_at cut at))
    (cond (ltb (length s) (at + 2 + word_at s at)) (over (refused_at cut at)) (whole_record s at)))

-- 01: "Byte 01, then records"; "file 10, then .."
unfoldable pub item_at : List ℕ → ℕ → Item
item_at s zero = cond (eqb (byte_at s 0) 1) (record_at s 1) (over (refused_at version 0))
item_at s (suc at) = record_at s (suc at)

-- ---- The whole file

pub record Session : Type 0 where
  pub events : List Event
  pub end : End

-- `rest` is the session from a later place on
abbrev pub on_item : (ℕ → Session) → Item → Session
on_item rest (got e next) = record { events = e ∷ (rest next).events; end = (rest next).end }
on_item rest (over x) = record { events = []; end = x }

-- from a place on; the first number bounds how many records are looked at
unfoldable pub from : ℕ → List ℕ → ℕ → Session
from zero s at = record { events = []; end = file_end }
from (suc f) s at = on_item (from f s) (item_at s at)

-- a file has fewer records than bytes
unfoldable pub session : List ℕ → Session
session s = from (suc (length s)) s 0

-- x is the session from a place on, as a loop over the records has it before it
pub record Rest (s : List ℕ) (at : ℕ) (x : Session) : Type 0 where
  pub within : at ≤ length s
  pub fuel : ℕ
  pub enough : length s < at + fuel
  pub is : x ≡ from fuel s at
