-- What stands at a place of a session file, in document 01's numbers and values: what a promise says of the enum `Item`.
--   item_numbers i       those of an item
--   Items-in-numbers    an example of each case
use Rattle.std.specs.Prelude.{ℕ, ◌≡◌, List, [], ◌∷◌}
use Rattle.file_rules.specs.Item.{Item}
use Rattle.file_rules.specs.Item.{Got as got, Over as over}
use Rattle.file_rules.specs.File.{verdict, item_at}
use Rattle.file_rules.specs.Row.{row_of}
use Rattle.file_rules.specs.Laws.{every_kind}

pub record ItemNumbers : Type 0 where
  -- the event: its kind and its fields; none where the file ends
  pub row : List ℕ
  -- the refusal number, 0 where there is none
  pub number : ℕ
  -- where the next record stands; of a refusal "p: byte where the record starts"
  pub place : ℕ

abbrev pub item_numbers : Item → ItemNumbers
item_numbers (got e next) = record { row = row_of e; number = 0; place = next }
item_numbers (over end) = record { row = []; number = (verdict end).number; place = (verdict end).place }

-- ---- Examples

pub record ItemsInNumbers : Type 0 where
  -- the power-up at the start of a file, and the write behind it
  pub first : item_numbers (item_at every_kind 0) ≡ record { row = 1 ∷ 0x0A ∷ 0x0B ∷ 0x0C ∷ 0x0D ∷ 0x0E0F ∷ []; number = 0; place = 10 }
  pub later : item_numbers (item_at every_kind 10) ≡ record { row = 2 ∷ 0x1C ∷ 0x89ABCDEF ∷ 0 ∷ 0 ∷ 0 ∷ []; number = 0; place = 18 }
  -- its end, and a file that is cut behind a tick
  pub end : item_numbers (item_at every_kind 40) ≡ record { row = []; number = 0; place = 0 }
  pub cut : item_numbers (item_at (0x01 ∷ 0x00 ∷ 0x01 ∷ 0x04 ∷ 0x00 ∷ []) 4) ≡ record { row = []; number = 11; place = 4 }

abbrev pub Items-in-numbers : Type 0
Items-in-numbers = ItemsInNumbers
