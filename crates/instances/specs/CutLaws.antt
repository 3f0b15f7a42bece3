-- What the laws of specs/Laws say of the cuts of specs/Examples and specs/Instances, clause by clause.
use Rattle.std.specs.Prelude.{ℕ, ◌+◌, ◌*◌, ◌≤◌, ◌<◌, ◌≡◌, ◌≢◌, ◌↔◌, List, [], ◌∷◌, length, get_or, take, drop}
use Rattle.std.specs.Int.Count.{ones}
use Rattle.std.proofs.Math.Seq.{slice}
use Rattle.rules.specs.declared.Event.{Event}
use Rattle.rules.specs.declared.Event.TheVariants.{Read as read, Write as write}
use Rattle.laws.specs.Moved.{Among}
use Rattle.file_rules.specs.Item.{File}
use Rattle.file_rules.specs.File.{session}
use Rattle.file_rules.specs.Bytes.{file_of}
use Rattle.cut_rules.specs.Cut.{Cut, chosen, groups, numbers, eof_on_last, events, cut_refusal, cut_end, cut_output}
use Rattle.cut_rules.specs.Laws.{GoodChoice}
use Rattle.cut_rules.specs.Examples.{of_small, recorded, cut_of_four, four_numbers}
use Rattle.instances.specs.Cuts.{cut_of_eight}

-- ---- Numbers-told

-- a cut of two groups: c channels are chosen, the channel `taken` among them, the channel `left` not
pub record ChosenTold (q : Cut) (c taken left : ℕ) : Type 0 where
  pub among : Among taken (chosen q)
  pub not_among : ¬ Among left (chosen q)
  pub ascending : get_or (chosen q) 0 0 < get_or (chosen q) 1 0
  pub channels : ones q.mask ≡ c
  pub groups_cut : groups q ≡ 2
  pub long : length (numbers q) ≡ 2 * c

-- ---- Eof-told

pub record FourMarked : Type 0 where
  pub long : length (eof_on_last four_numbers) ≡ 4
  pub last : get_or (eof_on_last four_numbers) 3 0 ≡ 0x13003
  pub others : (get_or (eof_on_last four_numbers) 0 0 ≡ 0x2001) × (get_or (eof_on_last four_numbers) 1 0 ≡ 0x2003) × (get_or (eof_on_last four_numbers) 2 0 ≡ 0x3001)
  pub single : get_or (eof_on_last (7 ∷ [])) 0 0 ≡ 0x10007

-- ---- Session-told

abbrev pub four_events : List Event
four_events = write 0x04 0b1010 ∷ write 0x18 0x2001 ∷ write 0x18 0x2003 ∷ write 0x18 0x3001 ∷ write 0x18 0x13003 ∷ []

pub record FourSession : Type 0 where
  pub many : length (events cut_of_four) ≡ 5
  pub mask : get_or (events cut_of_four) 0 (read 0) ≡ write 0x04 0b1010
  pub first : get_or (events cut_of_four) 1 (read 0) ≡ write 0x18 0x2001
  pub last : get_or (events cut_of_four) 4 (read 0) ≡ write 0x18 0x13003
  pub bytes : length (file_of (events cut_of_four)) ≡ 41

-- ---- Cut-exactly

-- a good order, whose session has so many bytes: it depends on the output and the place alone
pub record GoodCalls (q : Cut) (bytes n place : ℕ) : Type 0 where
  pub done : (cut_refusal q n place ≡ 0) ↔ (place + bytes ≤ n)
  pub short : (cut_refusal q n place ≡ 21) ↔ ((place ≤ n) × (n < place + bytes))
  pub past : (cut_refusal q n place ≡ 20) ↔ (n < place)
  pub grouped : cut_refusal q n place ≢ 22
  pub choice : cut_refusal q n place ≢ 23

-- bad ones, whatever the output and the place
pub record BadCalls (n place : ℕ) : Type 0 where
  pub no_channels : cut_refusal (of_small 0 0 0 1) n place ≡ 22
  pub twenty_one : cut_refusal (recorded 21 21) n place ≡ 22
  pub part_of_a_group : cut_refusal (of_small 5 0 0 1) n place ≡ 22
  pub empty_choice : cut_refusal (of_small 4 0 2 0) n place ≡ 23
  pub outside : cut_refusal (of_small 4 0 2 0b10001) n place ≡ 23
  pub reversed : cut_refusal (of_small 4 2 1 1) n place ≡ 23
  pub beyond : cut_refusal (of_small 4 0 3 1) n place ≡ 23
  -- twelve numbers are refused by 22 for no other reason, and their three groups of four by 23 for none but the choice
  pub only_22 : (channels : ℕ) → cut_refusal (of_small channels 0 0 1) n place ≡ 22 → 1 ≤ channels → channels ≤ 20 → (k : ℕ) → 12 ≢ k * channels
  pub only_23 : (first last mask : ℕ) → cut_refusal (of_small 4 first last mask) n place ≡ 23 → ¬ GoodChoice (of_small 4 first last mask) 3

-- ---- Cut-refused

pub record Unwritten (q : Cut) (out : List ℕ) (place : ℕ) : Type 0 where
  pub end : cut_end q (length out) place ≡ 0
  pub output : cut_output q out place ≡ out

-- ---- Cut-read

pub record CutReread (q : Cut) (es : List Event) (out : List ℕ) (place : ℕ) : Type 0 where
  pub within : cut_end q (length out) place ≤ length out
  pub read : session (slice place (cut_end q (length out) place) (cut_output q out place)) ≡ record { events = es; end = File }
  pub before : take place (cut_output q out place) ≡ take place out
  pub behind : drop (cut_end q (length out) place) (cut_output q out place) ≡ drop (cut_end q (length out) place) out

-- ---- All of them

pub record Cut-laws-met : Type 0 where
  pub four_chosen : ChosenTold cut_of_four 2 3 2
  pub four_first : (get_or (numbers cut_of_four) 0 0 ≡ 0x2001) × (get_or (numbers cut_of_four) 1 0 ≡ 0x2003)
  pub four_second : (get_or (numbers cut_of_four) 2 0 ≡ 0x3001) × (get_or (numbers cut_of_four) 3 0 ≡ 0x3003)
  pub eight_chosen : ChosenTold cut_of_eight 4 18 17
  pub eight_first : (get_or (numbers cut_of_eight) 0 0 ≡ 0x0100) × (get_or (numbers cut_of_eight) 2 0 ≡ 0x0110)
  pub eight_second : (get_or (numbers cut_of_eight) 5 0 ≡ 0x9103) × (get_or (numbers cut_of_eight) 7 0 ≡ 0x9112)
  pub four_marked : FourMarked
  pub four_session : FourSession
  pub four_calls : (n place : ℕ) → GoodCalls cut_of_four 41 n place
  pub eight_calls : (n place : ℕ) → GoodCalls cut_of_eight 73 n place
  pub bad_calls : (n place : ℕ) → BadCalls n place
  pub part_unwritten : (out : List ℕ) (place : ℕ) → Unwritten (of_small 5 0 0 1) out place
  pub reversed_unwritten : (out : List ℕ) (place : ℕ) → Unwritten (of_small 4 2 1 1) out place
  pub four_unwritten : (out : List ℕ) (place : ℕ) → length out < place + 41 → Unwritten cut_of_four out place
  pub four_back : (out : List ℕ) (place : ℕ) → place + 41 ≤ length out → CutReread cut_of_four four_events out place
