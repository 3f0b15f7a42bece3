-- A session file once more, in other words than the definitions. Proofs are in proofs/.
--   Item-exactly    what stands at a place is given exactly when 01 says so, the refusals 10 to 13 each with its condition
--   Item-grows      the next record stands further on, and within the file
--   Session-refused a file that ends in a refusal is refused so at that place
--   File-exactly    a file is refused by a number at a place, or not refused, exactly when its walk comes to where 01 says so
--   Every-kind      which byte is which field
--   Bytes-read      the record of an event is read as that event, wherever it stands; File-read: so is a file of events
--   Refused-events  a file that is refused behind good records has their events
--   File-written    and what is written of a good file's events is that file
--   Row-read        the row of an event is read back
use Rattle.std.specs.Prelude.{ℕ, suc, ◌+◌, ◌≤◌, ◌<◌, ◌≡◌, ◌≢◌, ◌↔◌, List, [], ◌∷◌, ◌++◌, length}
use Rattle.rules.specs.declared.Event.{Event}
use Rattle.rules.specs.declared.Event.TheVariants.{PowerUp, Write, Read, Signal}
use Rattle.rules.specs.declared.Signal.TheVariants.{Tick, Outside, Trigger, Passed, Failed, Settled}
use Rattle.file_rules.specs.declared.Fault.{Fault}
use Rattle.file_rules.specs.declared.Fault.TheVariants.{Version, Cut, Length, Kind}
use Rattle.file_rules.specs.Item.{File, Refused}
use Rattle.file_rules.specs.Item.{Item}
use Rattle.file_rules.specs.Item.{Got, Over}
use Rattle.file_rules.specs.Row.{row_of, event_of_row}
use Rattle.file_rules.specs.Bytes.{bytes_of, file_of, Fits, AllFit}
use Rattle.file_rules.specs.File.{verdict, byte_at, word_at, event_at, item_at, Session, session}

-- the kinds, each with the length of its records
pub data Known : ℕ → ℕ → Type 0 where
  power_up : Known 1 7
  write : Known 2 6
  read : Known 3 2
  signal : (kind : ℕ) → 4 ≤ kind → kind ≤ 9 → Known kind 1

-- the whole record at a place is in the file: its two bytes of length, and as many bytes as they say
abbrev pub Whole : List ℕ → ℕ → Type 0
Whole s at = at + 2 + word_at s at ≤ length s

-- what stands at a place from 1 on
pub data Record (s : List ℕ) (at : ℕ) : Item → Type 0 where
  ended : length s ≤ at → Record s at (Over File)
  half_length : at < length s → length s < at + 2 → Record s at (Over (Refused Cut at))
  short_body : at + 2 ≤ length s → length s < at + 2 + word_at s at → Record s at (Over (Refused Cut at))
  length_zero : Whole s at → word_at s at ≡ 0 → Record s at (Over (Refused Length at))
  unknown : Whole s at → word_at s at ≢ 0 → ((n : ℕ) → ¬ Known (byte_at s (at + 2)) n) → Record s at (Over (Refused Kind at))
  length_wrong : (n : ℕ) → Whole s at → word_at s at ≢ 0 → Known (byte_at s (at + 2)) n → word_at s at ≢ n → Record s at (Over (Refused Length at))
  event : Whole s at → Known (byte_at s (at + 2)) (word_at s at) → Record s at (Got (event_at s (at + 2)) (at + 2 + word_at s at))

-- an empty file's first byte counts as 0 here, and so as not 01
pub data ItemGiven (s : List ℕ) : ℕ → Item → Type 0 where
  bad_version : byte_at s 0 ≢ 1 → ItemGiven s 0 (Over (Refused Version 0))
  first : byte_at s 0 ≡ 1 → (i : Item) → Record s 1 i → ItemGiven s 0 i
  later : (at : ℕ) (i : Item) → Record s (suc at) i → ItemGiven s (suc at) i

abbrev pub Item-exactly : Type 0
Item-exactly = (s : List ℕ) (at : ℕ) (i : Item) → (item_at s at ≡ i) ↔ ItemGiven s at i

abbrev pub Item-grows : Type 0
Item-grows = (s : List ℕ) (at : ℕ) (e : Event) (next : ℕ) → item_at s at ≡ Got e next → (at + 3 ≤ next) × (next ≤ length s)

abbrev pub Session-refused : Type 0
Session-refused =
    (s : List ℕ) (why : Fault) (p : ℕ)
    → (session s).end ≡ Refused why p
    → item_at s p ≡ Over (Refused why p)

-- ---- The whole file

-- the walk of a file comes to a place: behind the version byte, and behind each record that is an event
pub data Reached (s : List ℕ) : ℕ → Type 0 where
  opened : byte_at s 0 ≡ 1 → Reached s 1
  passed : (at : ℕ) → Reached s at → Whole s at → Known (byte_at s (at + 2)) (word_at s at) → Reached s (at + 2 + word_at s at)

-- 01: the lines 10 to 13 of its table, each with the place where the record starts, in the order "file 10, then per record 11, length 0
-- (12), 13, 12"; and 0, "done"
pub data FileGiven (s : List ℕ) : ℕ → ℕ → Type 0 where
  -- "session file empty or its first byte not 01"; "0 for refusal 10"
  not_opened : byte_at s 0 ≢ 1 → FileGiven s 10 0
  -- "file ends inside a record": in its length, or behind it
  in_length : (p : ℕ) → Reached s p → p < length s → length s < p + 2 → FileGiven s 11 p
  in_body : (p : ℕ) → Reached s p → p + 2 ≤ length s → length s < p + 2 + word_at s p → FileGiven s 11 p
  -- "record length .. 0"
  zero_length : (p : ℕ) → Reached s p → Whole s p → word_at s p ≡ 0 → FileGiven s 12 p
  -- "unknown record kind"
  unknown_kind : (p : ℕ) → Reached s p → Whole s p → word_at s p ≢ 0 → ((n : ℕ) → ¬ Known (byte_at s (p + 2)) n) → FileGiven s 13 p
  -- "record length wrong for its kind"
  wrong_length : (p n : ℕ) → Reached s p → Whole s p → word_at s p ≢ 0 → Known (byte_at s (p + 2)) n → word_at s p ≢ n → FileGiven s 12 p
  done : (p : ℕ) → Reached s p → length s ≤ p → FileGiven s 0 0

abbrev pub File-exactly : Type 0
File-exactly = (s : List ℕ) (n p : ℕ) → (verdict (session s).end ≡ record { number = n; place = p }) ↔ FileGiven s n p

-- ---- Fields

-- 01: "1 power-up (d, range, filter, kit, firmware in two bytes) 7; 2 write (offset, value in four) 6; 3 read (offset) 2; 4 tick,
-- 5 outside clock, 6 trigger, 7 calibration passed, 8 failed, 9 settled, 1 each": a file with a record of each kind, no two bytes of a
-- record alike
abbrev pub every_kind : List ℕ
every_kind =
    0x01
    ∷ 0x00 ∷ 0x07 ∷ 0x01 ∷ 0x0A ∷ 0x0B ∷ 0x0C ∷ 0x0D ∷ 0x0E ∷ 0x0F
    ∷ 0x00 ∷ 0x06 ∷ 0x02 ∷ 0x1C ∷ 0x89 ∷ 0xAB ∷ 0xCD ∷ 0xEF
    ∷ 0x00 ∷ 0x02 ∷ 0x03 ∷ 0x14
    ∷ 0x00 ∷ 0x01 ∷ 0x04 ∷ 0x00 ∷ 0x01 ∷ 0x05 ∷ 0x00 ∷ 0x01 ∷ 0x06
    ∷ 0x00 ∷ 0x01 ∷ 0x07 ∷ 0x00 ∷ 0x01 ∷ 0x08 ∷ 0x00 ∷ 0x01 ∷ 0x09
    ∷ []

pub record EveryKind (x : Session) : Type 0 where
  pub events : x.events
      ≡ PowerUp (record { fitted = 0x0A; range = 0x0B; filter = 0x0C; kit = 0x0D; firmware = 0x0E0F })
      ∷ Write 0x1C 0x89ABCDEF
      ∷ Read 0x14
      ∷ Signal Tick ∷ Signal Outside ∷ Signal Trigger ∷ Signal Passed ∷ Signal Failed ∷ Signal Settled ∷ []
  pub end : x.end ≡ File

abbrev pub Every-kind : Type 0
Every-kind = EveryKind (session every_kind)

-- ---- Written and read

-- what is written at a place of a file, behind its version byte, is read there
abbrev pub Bytes-read : Type 0
Bytes-read =
    (xs ys : List ℕ) (e : Event)
    → Fits e
    → 0 < length xs
    → item_at (xs ++ (bytes_of e ++ ys)) (length xs) ≡ Got e (length xs + length (bytes_of e))

-- a file that is written of events has these events, and no refusal
abbrev pub File-read : Type 0
File-read = (es : List Event) → AllFit es → session (file_of es) ≡ record { events = es; end = File }

-- 01: "A file refusal stops it, and record and memory stay as the earlier records left them": a file that is refused behind the records of
-- these events has these events
abbrev pub Refused-events : Type 0
Refused-events =
    (es : List Event) (ys : List ℕ) (why : Fault) (p : ℕ)
    → AllFit es
    → item_at (file_of es ++ ys) (length (file_of es)) ≡ Over (Refused why p)
    → session (file_of es ++ ys) ≡ record { events = es; end = Refused why p }

-- and a file of bytes that is not refused is what is written of its events
abbrev pub File-written : Type 0
File-written = (s : List ℕ) → ((i : ℕ) → byte_at s i < 256) → (session s).end ≡ File → file_of (session s).events ≡ s

-- the row of an event is that event's
abbrev pub Row-read : Type 0
Row-read = (e : Event) → event_of_row (row_of e) ≡ e
