-- What comes of a call, in numbers.
--   refusal_number why   by which number a call is refused
--   outcome_number r     that number, 0 where nothing is refused
--   written_of r         that number, and where the writer stopped
use Rattle.std.specs.Prelude.{ℕ, Result, Ok, Err}
use Rattle.writer.specs.declared.refusal.WriteRefusal.{WriteRefusal}
use Rattle.writer.specs.declared.refusal.WriteRefusal.TheVariants.{UnknownKind, PlacePastEnd, NoRoom, PartOfAGroup, NoChoice, FieldTooLarge, PartOfARow}

-- where the writer stopped; refused, the place is 0
pub record Written : Type 0 where
  pub refusal : ℕ
  pub place : ℕ

-- 02: "32 a slice not of whole events, .. 13 an unknown kind, 30 a field .., 20 a place past the output's end, 21 when the whole session
-- doesn't fit"; of a cut 22 and 23
unfoldable pub refusal_number : WriteRefusal → ℕ
refusal_number UnknownKind = 13
refusal_number PlacePastEnd = 20
refusal_number NoRoom = 21
refusal_number PartOfAGroup = 22
refusal_number NoChoice = 23
refusal_number FieldTooLarge = 30
refusal_number PartOfARow = 32

unfoldable pub outcome_number : {A : Type 0} → Result A WriteRefusal → ℕ
outcome_number (Ok _) = 0
outcome_number (Err why) = refusal_number why

-- 02: it "says where it stopped"; a refusal "answers place 0"
unfoldable pub written_of : Result ℕ WriteRefusal → Written
written_of (Ok place) = record { refusal = 0; place = place }
written_of (Err why) = record { refusal = refusal_number why; place = 0 }
