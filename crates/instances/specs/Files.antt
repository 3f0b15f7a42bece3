-- The theorems on session files met: each applied to files and rows written out, each clause in plain numbers.
--   Writing-met   Write-read, Write-back, Write-refused, Write-exactly     Rows-met   Row-exactly, Row-back, Row-read
--   Items-met     Item-exactly, Item-grows, Bytes-read                     Files-met  File-exactly, File-read, File-written,
--                                                                                     Session-refused, Refused-events
use Rattle.std.specs.Prelude.{ℕ, ◌+◌, ◌*◌, ◌≤◌, ◌<◌, ◌≡◌, ◌≢◌, List, [], ◌∷◌, ◌++◌, length, take, drop, replicate}
use Rattle.std.proofs.Math.Seq.{slice}
use Rattle.rules.specs.declared.Event.{Event}
use Rattle.rules.specs.declared.Event.TheVariants.{PowerUp, Write, Read, Signal}
use Rattle.rules.specs.declared.Signal.TheVariants.{Tick, Outside, Trigger, Passed, Failed, Settled}
use Rattle.file_rules.specs.declared.Fault.TheVariants.{Version, Cut, Length, Kind}
use Rattle.file_rules.specs.Item.{File, Refused}
use Rattle.file_rules.specs.Item.{Got, Over}
use Rattle.file_rules.specs.Bytes.{file_of, Fits}
use Rattle.file_rules.specs.File.{verdict, byte_at, item_at, session}
use Rattle.file_rules.specs.Row.{row_of, event_of_row}
use Rattle.file_rules.specs.Laws.{Known, every_kind}
use Rattle.file_rules.specs.Writing.{rows_of, row_refusal, write_refusal, end_place, output_after}
use Rattle.file_rules.specs.WritingLaws.{scope_rows, tick_row, kind_of260, read_of256}

-- ---- Writing

-- the events of document 01's session
abbrev pub scope_events : List Event
scope_events =
    PowerUp (record { fitted = 0; range = 1; filter = 0; kit = 0; firmware = 0x10 })
    ∷ Write 0x04 5
    ∷ Write 0x0C 0x20
    ∷ Write 0x18 0x9000
    ∷ Write 0x18 0x7000
    ∷ Signal Tick
    ∷ Read 0x0C
    ∷ []

-- its output on 52 bytes EEh, from byte 2 on: one byte is left behind it
abbrev pub scope_output : List ℕ
scope_output = output_after scope_rows (replicate 52 0xEE) 2

-- the rows of a file with a record of each kind
abbrev pub every_rows : List ℕ
every_rows =
    1 ∷ 0x0A ∷ 0x0B ∷ 0x0C ∷ 0x0D ∷ 0x0E0F
    ∷ 2 ∷ 0x1C ∷ 0x89ABCDEF ∷ 0 ∷ 0 ∷ 0
    ∷ 3 ∷ 0x14 ∷ 0 ∷ 0 ∷ 0 ∷ 0
    ∷ 4 ∷ 0 ∷ 0 ∷ 0 ∷ 0 ∷ 0
    ∷ 5 ∷ 0 ∷ 0 ∷ 0 ∷ 0 ∷ 0
    ∷ 6 ∷ 0 ∷ 0 ∷ 0 ∷ 0 ∷ 0
    ∷ 7 ∷ 0 ∷ 0 ∷ 0 ∷ 0 ∷ 0
    ∷ 8 ∷ 0 ∷ 0 ∷ 0 ∷ 0 ∷ 0
    ∷ 9 ∷ 0 ∷ 0 ∷ 0 ∷ 0 ∷ 0
    ∷ []

pub record WritingMet : Type 0 where
  -- Write-read of document 01's session: it ends at byte 51
  pub within : end_place scope_rows 52 2 ≤ 52
  pub read : session (slice 2 51 scope_output) ≡ record { events = scope_events; end = File }
  pub before : take 2 scope_output ≡ 0xEE ∷ 0xEE ∷ []
  pub behind : drop 51 scope_output ≡ 0xEE ∷ []
  -- and of no event, into the last byte of an output
  pub none_within : end_place [] 3 2 ≤ 3
  pub none_read : session (slice 2 3 (output_after [] (replicate 3 0xEE) 2)) ≡ record { events = []; end = File }
  pub none_before : take 2 (output_after [] (replicate 3 0xEE) 2) ≡ 0xEE ∷ 0xEE ∷ []
  pub none_behind : drop 3 (output_after [] (replicate 3 0xEE) 2) ≡ []
  -- Write-back of a file with a record of each kind, 40 bytes, into an output that it fills
  pub to_end : end_place every_rows 41 1 ≡ 41
  pub bytes : slice 1 41 (output_after every_rows (replicate 41 0xEE) 1) ≡ every_kind
  -- Write-refused
  pub refused_place : end_place (tick_row ++ kind_of260) 9 3 ≡ 0
  pub refused_output : output_after (tick_row ++ kind_of260) (replicate 9 0xEE) 3 ≡ replicate 9 0xEE
  -- Write-exactly, from what 02 says to the number: a part of a row; a bad row behind a good one and before another; a place past the
  -- end, and at it; one byte short, and none
  pub given_32 : write_refusal (tick_row ++ 4 ∷ []) 4 0 ≡ 32
  pub given_13 : write_refusal (tick_row ++ (kind_of260 ++ read_of256)) 0 1 ≡ 13
  pub given_30 : write_refusal (tick_row ++ (read_of256 ++ kind_of260)) 0 1 ≡ 30
  pub given_20 : write_refusal scope_rows 52 53 ≡ 20
  pub given_21 : write_refusal scope_rows 50 2 ≡ 21
  pub given_0 : write_refusal scope_rows 51 2 ≡ 0
  -- and from the number to what 02 says, on any output
  pub told_32 : (k : ℕ) → length (tick_row ++ 4 ∷ []) ≢ 6 * k
  pub told_20 : (n place : ℕ) → write_refusal scope_rows n place ≡ 20 → n < place
  pub told_21 : (n place : ℕ) → write_refusal scope_rows n place ≡ 21 → (es : List Event) × (scope_rows ≡ rows_of es) × (n < place + length (file_of es))
  pub told_0 : (n place : ℕ) → write_refusal scope_rows n place ≡ 0 → (es : List Event) × (scope_rows ≡ rows_of es) × (place + length (file_of es) ≤ n)

abbrev pub Writing-met : Type 0
Writing-met = WritingMet

-- ---- Rows

pub record RowsMet : Type 0 where
  -- Row-exactly, both ways: an unknown kind, a field too large, the longest firmware number
  pub given_13 : row_refusal kind_of260 ≡ 13
  pub given_30 : row_refusal read_of256 ≡ 30
  pub given_0 : row_refusal (1 ∷ 255 ∷ 255 ∷ 255 ∷ 255 ∷ 65535 ∷ []) ≡ 0
  pub told_13 : (n : ℕ) → ¬ Known 260 n
  pub told_30 : (e : Event) → Fits e → read_of256 ≢ row_of e
  pub told_0 : (e : Event) × Fits e × (2 ∷ 255 ∷ 0xFFFFFFFF ∷ 0 ∷ 0 ∷ 0 ∷ [] ≡ row_of e)
  -- Row-back
  pub back : row_of (Write 0x18 0x9000) ≡ 2 ∷ 0x18 ∷ 0x9000 ∷ 0 ∷ 0 ∷ 0 ∷ []
  -- Row-read
  pub power_up_read : event_of_row (1 ∷ 10 ∷ 11 ∷ 12 ∷ 13 ∷ 14 ∷ [])
      ≡ PowerUp (record { fitted = 10; range = 11; filter = 12; kit = 13; firmware = 14 })
  pub write_read : event_of_row (2 ∷ 0x18 ∷ 0x9000 ∷ 0 ∷ 0 ∷ 0 ∷ []) ≡ Write 0x18 0x9000
  pub read_read : event_of_row (3 ∷ 0x14 ∷ 0 ∷ 0 ∷ 0 ∷ 0 ∷ []) ≡ Read 0x14
  pub settled_read : event_of_row (9 ∷ 0 ∷ 0 ∷ 0 ∷ 0 ∷ 0 ∷ []) ≡ Signal Settled

abbrev pub Rows-met : Type 0
Rows-met = RowsMet

-- ---- Items

-- a tick, then a read, then a record of kind 10; and the tick, then half a length
abbrev pub ten_behind : List ℕ
ten_behind = 0x01 ∷ 0x00 ∷ 0x01 ∷ 0x04 ∷ 0x00 ∷ 0x02 ∷ 0x03 ∷ 0x0C ∷ 0x00 ∷ 0x01 ∷ 0x0A ∷ 0x00 ∷ 0x01 ∷ 0x04 ∷ []

abbrev pub half_behind : List ℕ
half_behind = 0x01 ∷ 0x00 ∷ 0x01 ∷ 0x04 ∷ 0x00 ∷ []

-- a read whose length lacks the offset, one that is cut before it, a record of length 0, and a tick
abbrev pub short_read : List ℕ
short_read = 0x01 ∷ 0x00 ∷ 0x01 ∷ 0x03 ∷ []

abbrev pub cut_read : List ℕ
cut_read = 0x01 ∷ 0x00 ∷ 0x02 ∷ 0x03 ∷ []

abbrev pub no_length : List ℕ
no_length = 0x01 ∷ 0x00 ∷ 0x00 ∷ []

abbrev pub one_tick : List ℕ
one_tick = 0x01 ∷ 0x00 ∷ 0x01 ∷ 0x04 ∷ []

pub record ItemsMet : Type 0 where
  -- Item-exactly, from what 01 says to what stands there
  pub bad_version : item_at (0x02 ∷ []) 0 ≡ Over (Refused Version 0)
  pub first_event : item_at ten_behind 0 ≡ Got (Signal Tick) 4
  pub later_event : item_at ten_behind 4 ≡ Got (Read 0x0C) 8
  pub unknown : item_at ten_behind 8 ≡ Over (Refused Kind 8)
  pub half_length : item_at half_behind 4 ≡ Over (Refused Cut 4)
  pub short_body : item_at cut_read 1 ≡ Over (Refused Cut 1)
  pub length_zero : item_at no_length 1 ≡ Over (Refused Length 1)
  pub length_wrong : item_at short_read 1 ≡ Over (Refused Length 1)
  pub ended : item_at (0x01 ∷ []) 1 ≡ Over File
  -- and from what stands there to what 01 says
  pub told_version : byte_at (0x02 ∷ []) 0 ≢ 1
  pub told_kind : (n : ℕ) → ¬ Known (byte_at ten_behind 10) n
  -- Item-grows
  pub further : 4 + 3 ≤ 8
  pub inside : 8 ≤ length ten_behind
  -- Bytes-read: a write behind one byte and before another
  pub bytes_read : item_at (0xEE ∷ 0x00 ∷ 0x06 ∷ 0x02 ∷ 0x18 ∷ 0x00 ∷ 0x00 ∷ 0x90 ∷ 0x00 ∷ 0xEE ∷ []) 1 ≡ Got (Write 0x18 0x9000) 9

abbrev pub Items-met : Type 0
Items-met = ItemsMet

-- ---- Files

pub record FilesMet : Type 0 where
  -- File-exactly, from what 01 says to the verdict
  pub given_10 : verdict (session []).end ≡ record { number = 10; place = 0 }
  pub given_11 : verdict (session half_behind).end ≡ record { number = 11; place = 4 }
  pub given_11_body : verdict (session cut_read).end ≡ record { number = 11; place = 1 }
  pub given_12 : verdict (session no_length).end ≡ record { number = 12; place = 1 }
  pub given_12_kind : verdict (session short_read).end ≡ record { number = 12; place = 1 }
  pub given_13 : verdict (session ten_behind).end ≡ record { number = 13; place = 8 }
  pub given_0 : verdict (session one_tick).end ≡ record { number = 0; place = 0 }
  -- and from the verdict to what 01 says
  pub told_10 : byte_at (0x02 ∷ []) 0 ≢ 1
  pub told_11 : length half_behind < 4 + 2
  pub told_13 : (n : ℕ) → ¬ Known (byte_at ten_behind 10) n
  -- File-read
  pub file_read : session (0x01 ∷ 0x00 ∷ 0x01 ∷ 0x04 ∷ 0x00 ∷ 0x02 ∷ 0x03 ∷ 0x0C ∷ [])
      ≡ record { events = Signal Tick ∷ Read 0x0C ∷ []; end = File }
  -- File-written
  pub file_written :
      file_of
      (PowerUp (record { fitted = 0x0A; range = 0x0B; filter = 0x0C; kit = 0x0D; firmware = 0x0E0F })
      ∷ Write 0x1C 0x89ABCDEF
      ∷ Read 0x14
      ∷ Signal Tick ∷ Signal Outside ∷ Signal Trigger ∷ Signal Passed ∷ Signal Failed ∷ Signal Settled ∷ [])
      ≡ every_kind
  -- Session-refused
  pub refused_there : item_at ten_behind 8 ≡ Over (Refused Kind 8)
  -- Refused-events: behind a tick and a read, and behind none
  pub refused_events : session ten_behind ≡ record { events = Signal Tick ∷ Read 0x0C ∷ []; end = Refused Kind 8 }
  pub refused_first : session (0x01 ∷ 0x00 ∷ []) ≡ record { events = []; end = Refused Cut 1 }

abbrev pub Files-met : Type 0
Files-met = FilesMet
