-- A session file written, once more, in other words than the definitions. Proofs are in proofs/.
--   Row-exactly     a row is refused by a number, or is that of an event, exactly when 02 says so
--   Row-back        the row of a good row's event is that row; with Row-read the two are inverse
--   Write-exactly   a call is refused by a number, or not refused, exactly when 02 says so, its order too
--   Write-refused   a refused call answers place 0 and writes no byte
--   Write-read      what was written, read from its place to where the writer stopped, gives the events and ends with the file
--   Write-back      a session that is not refused is written back, byte for byte, from the rows of its events
--   Scope-written   document 01's own session, byte by byte
--   Every-kind-back a file with a record of each kind, written back
--   Refusals-told   each refusal, and each order of two
use Rattle.std.specs.Prelude.{ℕ, ◌+◌, ◌*◌, ◌≤◌, ◌<◌, ◌≡◌, ◌≢◌, ◌↔◌, List, [], ◌∷◌, ◌++◌, length, take, drop, replicate}
use Rattle.std.proofs.Math.Seq.{slice}
use Rattle.rules.specs.declared.Event.{Event}
use Rattle.file_rules.specs.Item.{File}
use Rattle.file_rules.specs.File.{byte_at, session}
use Rattle.file_rules.specs.Row.{row_of, field, event_of_row}
use Rattle.file_rules.specs.Bytes.{file_of, Fits, AllFit}
use Rattle.file_rules.specs.Laws.{Known, every_kind}
use Rattle.file_rules.specs.Writing.{events_in, rows_of, row_refusal, write_refusal, end_place, output_after}

-- ---- Rows

pub data BadRow (r : List ℕ) : ℕ → Type 0 where
  -- 02: "13 an unknown kind"
  unknown_kind : ((k : ℕ) → ¬ Known (field r 0) k) → BadRow r 13
  -- 02: "30 a field too large for its bytes or not 0 where the kind has none": it is the row of no event whose fields fit
  misfit : (k : ℕ) → Known (field r 0) k → ((e : Event) → Fits e → r ≢ row_of e) → BadRow r 30

pub data RowGiven (r : List ℕ) : ℕ → Type 0 where
  bad : {n : ℕ} → BadRow r n → RowGiven r n
  good : (e : Event) → Fits e → r ≡ row_of e → RowGiven r 0

abbrev pub Row-exactly : Type 0
Row-exactly = (r : List ℕ) (n : ℕ) → length r ≡ 6 → (row_refusal r ≡ n) ↔ RowGiven r n

abbrev pub Row-back : Type 0
Row-back = (r : List ℕ) → length r ≡ 6 → row_refusal r ≡ 0 → row_of (event_of_row r) ≡ r

-- ---- Refusals

pub data WriteGiven (xs : List ℕ) (n place : ℕ) : ℕ → Type 0 where
  -- 02: "32 a slice not of whole events, first"
  not_whole : ((k : ℕ) → length xs ≢ 6 * k) → WriteGiven xs n place 32
  -- "the first bad event decides": all before it are good
  bad_event : (es : List Event) (r ys : List ℕ) (k m : ℕ)
      → AllFit es → length r ≡ 6 → BadRow r m → length ys ≡ 6 * k → xs ≡ rows_of es ++ (r ++ ys)
      → WriteGiven xs n place m
  -- "20 a place past the output's end"
  past_end : (es : List Event) → AllFit es → xs ≡ rows_of es → n < place → WriteGiven xs n place 20
  -- "21 when the whole session doesn't fit"
  too_long : (es : List Event) → AllFit es → xs ≡ rows_of es → place ≤ n → n < place + length (file_of es) → WriteGiven xs n place 21
  done : (es : List Event) → AllFit es → xs ≡ rows_of es → place + length (file_of es) ≤ n → WriteGiven xs n place 0

abbrev pub Write-exactly : Type 0
Write-exactly = (xs : List ℕ) (n place m : ℕ) → (write_refusal xs n place ≡ m) ↔ WriteGiven xs n place m

-- 02: "each answers place 0 and writes no byte"
abbrev pub Write-refused : Type 0
Write-refused =
    (xs out : List ℕ) (place : ℕ)
    → write_refusal xs (length out) place ≢ 0
    → (end_place xs (length out) place ≡ 0) × (output_after xs out place ≡ out)

-- ---- Written and read

-- of the output o that a call leaves on the output out, from the place on up to the end: 02, "Reading back gives the events", "Bytes
-- outside what it writes don't change"
pub record Reread (es : List Event) (out : List ℕ) (place end : ℕ) (o : List ℕ) : Type 0 where
  pub within : end ≤ length out
  pub read : session (slice place end o) ≡ record { events = es; end = File }
  pub before : take place o ≡ take place out
  pub behind : drop end o ≡ drop end out

abbrev pub Write-read : Type 0
Write-read =
    (xs out : List ℕ) (place : ℕ)
    → write_refusal xs (length out) place ≡ 0
    → Reread (events_in xs) out place (end_place xs (length out) place) (output_after xs out place)

-- the output o has a copy of the session s, from the place on up to the end
pub record Copied (s : List ℕ) (place end : ℕ) (o : List ℕ) : Type 0 where
  pub to_end : end ≡ place + length s
  pub bytes : slice place end o ≡ s

-- 02: "writing what was read gives the same bytes"
abbrev pub Write-back : Type 0
Write-back =
    (s out : List ℕ) (place : ℕ)
    → ((i : ℕ) → byte_at s i < 256)
    → (session s).end ≡ File
    → place + length s ≤ length out
    → Copied s place (end_place (rows_of (session s).events) (length out) place) (output_after (rows_of (session s).events) out place)

-- ---- Examples

-- the session of document 01 as rows
abbrev pub scope_rows : List ℕ
scope_rows =
    1 ∷ 0 ∷ 1 ∷ 0 ∷ 0 ∷ 0x10
    ∷ 2 ∷ 0x04 ∷ 5 ∷ 0 ∷ 0 ∷ 0
    ∷ 2 ∷ 0x0C ∷ 0x20 ∷ 0 ∷ 0 ∷ 0
    ∷ 2 ∷ 0x18 ∷ 0x9000 ∷ 0 ∷ 0 ∷ 0
    ∷ 2 ∷ 0x18 ∷ 0x7000 ∷ 0 ∷ 0 ∷ 0
    ∷ 4 ∷ 0 ∷ 0 ∷ 0 ∷ 0 ∷ 0
    ∷ 3 ∷ 0x0C ∷ 0 ∷ 0 ∷ 0 ∷ 0
    ∷ []

-- into an output of 52 bytes, from its byte 2 on: one byte is left behind it
pub record ScopeWritten : Type 0 where
  pub refusal : write_refusal scope_rows 52 2 ≡ 0
  pub end : end_place scope_rows 52 2 ≡ 51
  pub output : output_after scope_rows (replicate 52 0xEE) 2
      ≡ 0xEE ∷ 0xEE
      ∷ 0x01
      ∷ 0x00 ∷ 0x07 ∷ 0x01 ∷ 0x00 ∷ 0x01 ∷ 0x00 ∷ 0x00 ∷ 0x00 ∷ 0x10
      ∷ 0x00 ∷ 0x06 ∷ 0x02 ∷ 0x04 ∷ 0x00 ∷ 0x00 ∷ 0x00 ∷ 0x05
      ∷ 0x00 ∷ 0x06 ∷ 0x02 ∷ 0x0C ∷ 0x00 ∷ 0x00 ∷ 0x00 ∷ 0x20
      ∷ 0x00 ∷ 0x06 ∷ 0x02 ∷ 0x18 ∷ 0x00 ∷ 0x00 ∷ 0x90 ∷ 0x00
      ∷ 0x00 ∷ 0x06 ∷ 0x02 ∷ 0x18 ∷ 0x00 ∷ 0x00 ∷ 0x70 ∷ 0x00
      ∷ 0x00 ∷ 0x01 ∷ 0x04
      ∷ 0x00 ∷ 0x02 ∷ 0x03 ∷ 0x0C
      ∷ 0xEE ∷ []

abbrev pub Scope-written : Type 0
Scope-written = ScopeWritten

-- a file with a record of each kind, written back from its events: an instance of Write-back
abbrev pub Every-kind-back : Type 0
Every-kind-back = output_after (rows_of (session every_kind).events) (replicate 42 0xEE) 1 ≡ 0xEE ∷ every_kind ++ (0xEE ∷ [])

-- rows for the refusals
abbrev pub tick_row : List ℕ
tick_row = 4 ∷ 0 ∷ 0 ∷ 0 ∷ 0 ∷ 0 ∷ []

abbrev pub kind_of260 : List ℕ
kind_of260 = 260 ∷ 0 ∷ 0 ∷ 0 ∷ 0 ∷ 0 ∷ []

abbrev pub read_of256 : List ℕ
read_of256 = 3 ∷ 256 ∷ 0 ∷ 0 ∷ 0 ∷ 0 ∷ []

-- the session of one tick has four bytes
pub record RefusalsTold : Type 0 where
  pub done : write_refusal tick_row 4 0 ≡ 0
  pub no_events : write_refusal [] 1 0 ≡ 0
  pub long_firmware : write_refusal (1 ∷ 16 ∷ 3 ∷ 3 ∷ 3 ∷ 65535 ∷ []) 10 0 ≡ 0
  pub part_of_a_row : write_refusal (tick_row ++ 4 ∷ []) 4 0 ≡ 32
  pub part_before_all : write_refusal (kind_of260 ++ 4 ∷ []) 0 1 ≡ 32
  pub unknown : write_refusal kind_of260 4 0 ≡ 13
  pub bad_twice : write_refusal (10 ∷ 256 ∷ 0 ∷ 0 ∷ 0 ∷ 0 ∷ []) 4 0 ≡ 13
  pub large : write_refusal read_of256 5 0 ≡ 30
  pub not_zero : write_refusal (3 ∷ 12 ∷ 1 ∷ 0 ∷ 0 ∷ 0 ∷ []) 5 0 ≡ 30
  pub first_of_two : write_refusal (read_of256 ++ kind_of260) 8 0 ≡ 30
  pub bad_before_past : write_refusal (tick_row ++ kind_of260) 4 5 ≡ 13
  pub past : write_refusal tick_row 4 5 ≡ 20
  pub at_the_end : write_refusal tick_row 4 4 ≡ 21
  pub one_short : write_refusal tick_row 4 1 ≡ 21

abbrev pub Refusals-told : Type 0
Refusals-told = RefusalsTold
