-- Rows and whole files by their numbers: the definitions seen one by one (01, "Session file and listing"; 02, request 2026-01).
--   Rows-told    an event of each kind and its row
--   Files-told   files, each with 01's refusal number, the place, and the events that stand before it
use Rattle.std.specs.Prelude.{ℕ, ◌≡◌, List, [], ◌∷◌}
use Rattle.rules.specs.declared.Event.{Event}
use Rattle.rules.specs.declared.Event.TheVariants.{PowerUp, Write, Read, Signal}
use Rattle.rules.specs.declared.Signal.TheVariants.{Tick, Outside, Trigger, Passed, Failed, Settled}
use Rattle.file_rules.specs.File.{verdict, session}
use Rattle.file_rules.specs.Row.{row_of, event_of_row}

-- ---- Rows

abbrev pub RowTold : Event → List ℕ → Type 0
RowTold e r = (row_of e ≡ r) × (event_of_row r ≡ e)

-- 02: "six numbers each (kind, then fields)", the fields in 01's order: "1 power-up (d, range, filter, kit, firmware ..); 2 write (offset,
-- value ..); 3 read (offset) ..; 4 tick, 5 outside clock, 6 trigger, 7 calibration passed, 8 failed, 9 settled"
pub record RowsTold : Type 0 where
  pub power_up_told : RowTold
      (PowerUp (record { fitted = 11; range = 12; filter = 13; kit = 14; firmware = 15 }))
      (1 ∷ 11 ∷ 12 ∷ 13 ∷ 14 ∷ 15 ∷ [])
  pub write : RowTold (Write 28 4095) (2 ∷ 28 ∷ 4095 ∷ 0 ∷ 0 ∷ 0 ∷ [])
  pub read : RowTold (Read 20) (3 ∷ 20 ∷ 0 ∷ 0 ∷ 0 ∷ 0 ∷ [])
  pub tick : RowTold (Signal Tick) (4 ∷ 0 ∷ 0 ∷ 0 ∷ 0 ∷ 0 ∷ [])
  pub outside : RowTold (Signal Outside) (5 ∷ 0 ∷ 0 ∷ 0 ∷ 0 ∷ 0 ∷ [])
  pub trigger : RowTold (Signal Trigger) (6 ∷ 0 ∷ 0 ∷ 0 ∷ 0 ∷ 0 ∷ [])
  pub passed : RowTold (Signal Passed) (7 ∷ 0 ∷ 0 ∷ 0 ∷ 0 ∷ 0 ∷ [])
  pub failed : RowTold (Signal Failed) (8 ∷ 0 ∷ 0 ∷ 0 ∷ 0 ∷ 0 ∷ [])
  pub settled : RowTold (Signal Settled) (9 ∷ 0 ∷ 0 ∷ 0 ∷ 0 ∷ 0 ∷ [])

abbrev pub Rows-told : Type 0
Rows-told = RowsTold

-- ---- Files

-- refused by this number at this place, behind these events; 0 and 0 where it is not refused
abbrev pub FileTold : List ℕ → ℕ → ℕ → List Event → Type 0
FileTold s n p es = (verdict (session s).end ≡ record { number = n; place = p }) × ((session s).events ≡ es)

-- the bad record stands behind good ones, so that its place is not that of the first
pub record FilesTold : Type 0 where
  -- 0, "done": no record; a tick and a read
  pub no_record : FileTold (0x01 ∷ []) 0 0 []
  pub done : FileTold
      (0x01 ∷ 0x00 ∷ 0x01 ∷ 0x04 ∷ 0x00 ∷ 0x02 ∷ 0x03 ∷ 0x0C ∷ [])
      0 0 (Signal Tick ∷ Read 0x0C ∷ [])
  -- "10 session file empty or its first byte not 01"; "0 for refusal 10"
  pub empty : FileTold [] 10 0 []
  pub version_2 : FileTold (0x02 ∷ 0x00 ∷ 0x01 ∷ 0x04 ∷ []) 10 0 []
  -- "11 file ends inside a record": in its length, behind it, in its fields; a length of 256 is no length of 1
  pub half_length : FileTold (0x01 ∷ 0x00 ∷ 0x01 ∷ 0x04 ∷ 0x00 ∷ []) 11 4 (Signal Tick ∷ [])
  pub no_kind : FileTold (0x01 ∷ 0x00 ∷ 0x01 ∷ 0x04 ∷ 0x00 ∷ 0x01 ∷ []) 11 4 (Signal Tick ∷ [])
  pub half_value : FileTold
      (0x01 ∷ 0x00 ∷ 0x02 ∷ 0x03 ∷ 0x0C ∷ 0x00 ∷ 0x01 ∷ 0x05 ∷ 0x00 ∷ 0x06 ∷ 0x02 ∷ 0x18 ∷ 0x00 ∷ 0x00 ∷ 0x90 ∷ [])
      11 8 (Read 0x0C ∷ Signal Outside ∷ [])
  pub long_length : FileTold (0x01 ∷ 0x00 ∷ 0x01 ∷ 0x04 ∷ 0x01 ∷ 0x00 ∷ 0x04 ∷ []) 11 4 (Signal Tick ∷ [])
  -- "12 record length wrong for its kind, or 0": 0; a read of one byte; a tick of two
  pub length_0 : FileTold
      (0x01 ∷ 0x00 ∷ 0x01 ∷ 0x04 ∷ 0x00 ∷ 0x01 ∷ 0x05 ∷ 0x00 ∷ 0x00 ∷ [])
      12 7 (Signal Tick ∷ Signal Outside ∷ [])
  pub short_read : FileTold (0x01 ∷ 0x00 ∷ 0x01 ∷ 0x04 ∷ 0x00 ∷ 0x01 ∷ 0x03 ∷ []) 12 4 (Signal Tick ∷ [])
  pub long_tick : FileTold (0x01 ∷ 0x00 ∷ 0x02 ∷ 0x03 ∷ 0x0C ∷ 0x00 ∷ 0x02 ∷ 0x04 ∷ 0x00 ∷ []) 12 5 (Read 0x0C ∷ [])
  -- "13 unknown record kind": 0, and 10; a good record behind it is not looked at
  pub kind_0 : FileTold (0x01 ∷ 0x00 ∷ 0x01 ∷ 0x04 ∷ 0x00 ∷ 0x01 ∷ 0x00 ∷ []) 13 4 (Signal Tick ∷ [])
  pub kind_10 : FileTold
      (0x01 ∷ 0x00 ∷ 0x02 ∷ 0x03 ∷ 0x0C ∷ 0x00 ∷ 0x01 ∷ 0x0A ∷ 0x00 ∷ 0x01 ∷ 0x04 ∷ [])
      13 5 (Read 0x0C ∷ [])

abbrev pub Files-told : Type 0
Files-told = FilesTold
