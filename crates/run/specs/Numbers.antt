-- What stands at a cursor, and one record played, in document 01's numbers and values: what promises say of the enums `Ahead` and
-- `Progress`.
--   ahead_numbers a       those of what stands at a cursor
--   progress_numbers p    those of one record played
--   Progress-numbers     an example of each case
use Rattle.std.specs.Prelude.{ℕ, ◌≡◌, List, [], ◌∷◌}
use Rattle.rules.specs.declared.Signal.TheVariants.{Settled}
use Rattle.rules.specs.declared.Event.TheVariants.{Signal}
use Rattle.file_rules.specs.declared.Fault.TheVariants.{Length}
use Rattle.file_rules.specs.Item.{Refused}
use Rattle.file_rules.specs.Item.{Got, Over as over}
use Rattle.file_rules.specs.File.{verdict}
use Rattle.file_rules.specs.Numbers.{ItemNumbers, item_numbers}
use Rattle.run.specs.Ahead.{Ahead}
use Rattle.run.specs.Ahead.{Found, Over}
use Rattle.run.specs.Ahead.{Progress}
use Rattle.run.specs.Ahead.{Played, Ended}

-- as those of an item
abbrev pub ahead_numbers : Ahead → ItemNumbers
ahead_numbers (Found e after) = item_numbers (Got e after.place)
ahead_numbers (Over end) = item_numbers (over end)

pub record ProgressNumbers : Type 0 where
  -- 01: "refusal number; register value ..; values moved ..; load fate"; none where the file ends
  pub answers : List ℕ
  -- the refusal number of the file, 0 where there is none
  pub number : ℕ
  -- where the next record stands; of a file refusal "p: byte where the record starts"
  pub place : ℕ

abbrev pub progress_numbers : Progress → ProgressNumbers
progress_numbers (Played a after) =
    record { answers = a.refusal ∷ a.register ∷ a.moved ∷ a.fate ∷ []; number = 0; place = after.place }
progress_numbers (Ended end) = record { answers = []; number = (verdict end).number; place = (verdict end).place }

-- ---- Examples

pub record ProgressShown : Type 0 where
  pub found : ahead_numbers (Found (Signal Settled) (record { place = 7 })) ≡ record { row = 9 ∷ 0 ∷ 0 ∷ 0 ∷ 0 ∷ 0 ∷ []; number = 0; place = 7 }
  pub over : ahead_numbers (Over (Refused Length 7)) ≡ record { row = []; number = 12; place = 7 }
  pub played : progress_numbers (Played (record { refusal = 1; register = 2; moved = 3; fate = 4 }) (record { place = 7 }))
      ≡ record { answers = 1 ∷ 2 ∷ 3 ∷ 4 ∷ []; number = 0; place = 7 }
  pub ended : progress_numbers (Ended (Refused Length 7)) ≡ record { answers = []; number = 12; place = 7 }

abbrev pub Progress-numbers : Type 0
Progress-numbers = ProgressShown
