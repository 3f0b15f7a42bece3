-- The theorems on the listing met: each applied to numbers, lines and files written out, each clause in plain terms.
--   Numbers-met   Decimal-said, Decimal-plain, Hex-said, Hex-long       Lines-met   Lines-listed, Line-says, Levels-say
--   Lengths-met   Too-long, Not-too-long, Too-long-memory               Left-met    Refused-left
use Rattle.std.specs.Prelude.{ℕ, ◌<◌, ◌≡◌, List, [], ◌∷◌, ◌++◌, length, get_or, replicate}
use Rattle.basics.specs.Ascii.{ascii, space}
use Rattle.listing_rules.specs.Text.{hex}
use Rattle.listing_rules.specs.Listing.{text, memory_after}
use Rattle.listing_rules.specs.Laws.{said}
use Rattle.listing_rules.specs.LineLaws.{cut_behind, lines_in, line_in}
use Rattle.listing_rules.specs.Examples.{empty_listing, refused_behind_loads}

-- ---- Numbers

pub record NumbersMet : Type 0 where
  pub none_said : said 10 0 (ascii "0") ≡ 0
  pub ten_said : said 10 0 (ascii "10") ≡ 10
  pub most_said : said 10 0 (ascii "4294967295") ≡ 0xFFFFFFFF
  -- the digits of 10 and of the most begin with no "0"
  pub ten_plain : 48 < get_or (ascii "10") 0 0
  pub most_plain : 48 < get_or (ascii "4294967295") 0 0
  pub four_said : said 16 0 (ascii "0AF9") ≡ 0x0AF9
  pub eight_said : said 16 0 (ascii "FFFFFFFF") ≡ 0xFFFFFFFF
  pub none_long : length (hex 8 0) ≡ 8
  -- of a number that has more
  pub four_long : length (hex 4 0x12345) ≡ 4

abbrev pub Numbers-met : Type 0
Numbers-met = NumbersMet

-- ---- Lines

-- a read of an unpowered board, refused 3; a power-up of range 3, refused 14; a record of kind 10 at byte 14
abbrev pub two_refused : List ℕ
two_refused =
    0x01
    ∷ 0x00 ∷ 0x02 ∷ 0x03 ∷ 0x0C
    ∷ 0x00 ∷ 0x07 ∷ 0x01 ∷ 0x00 ∷ 0x03 ∷ 0x00 ∷ 0x00 ∷ 0x00 ∷ 0x00
    ∷ 0x00 ∷ 0x01 ∷ 0x0A
    ∷ []

abbrev pub no_levels : List ℕ
no_levels = ascii "LEVELS 0000 0000 0000 0000 0000 0000 0000 0000 0000 0000 0000 0000 0000 0000 0000 0000 0000 0000 0000 0000\n"

-- no leading zero
abbrev pub Plain : List ℕ → Type 0
Plain digits = (0 < length digits) × (1 < length digits → 48 < get_or digits 0 0)

-- the fields of a line l, cut at its spaces, say these numbers
abbrev pub FieldsSaid : List ℕ → ℕ → ℕ → ℕ → ℕ → ℕ → ℕ → Type 0
FieldsSaid l k n v moved fate count =
    (f0 f1 f2 f3 f4 f5 : List ℕ)
    × (cut_behind space l
    ≡ (f0 ++ ascii " ") ∷ (f1 ++ ascii " ") ∷ (f2 ++ ascii " ") ∷ (f3 ++ ascii " ") ∷ (f4 ++ ascii " ") ∷ (f5 ++ ascii "\n") ∷ [])
    × (said 10 0 f0 ≡ k) × Plain f0
    × (said 10 0 f1 ≡ n) × Plain f1
    × (said 16 0 f2 ≡ v) × (length f2 ≡ 8)
    × (said 10 0 f3 ≡ moved) × Plain f3
    × (said 10 0 f4 ≡ fate) × Plain f4
    × (said 10 0 f5 ≡ count) × Plain f5

-- a line l of levels says these two
abbrev pub LevelsRead : List ℕ → ℕ → ℕ → Type 0
LevelsRead l x y =
    (a b : List ℕ)
    × (cut_behind space l ≡ ascii "LEVELS " ∷ (a ++ ascii " ") ∷ (b ++ ascii "\n") ∷ [])
    × (said 16 0 a ≡ x) × (length a ≡ 4)
    × (said 16 0 b ≡ y) × (length b ≡ 4)

pub record LinesMet : Type 0 where
  -- Lines-listed of a file that is refused, over any memory
  pub heading : (m : List ℕ) → line_in two_refused m 0 ≡ ascii "REHEARSAL 1\n"
  pub first : (m : List ℕ) → line_in two_refused m 1 ≡ ascii "1 3 00000000 0 0 0\n"
  pub second : (m : List ℕ) → line_in two_refused m 2 ≡ ascii "2 14 00000000 0 0 0\n"
  pub refusal : (m : List ℕ) → line_in two_refused m 3 ≡ ascii "FILE 13 14\n"
  pub levels : (m : List ℕ) → line_in two_refused m 4 ≡ no_levels
  pub five : (m : List ℕ) → length (lines_in two_refused m) ≡ 5
  -- and of one that is not
  pub whole_levels : (m : List ℕ) → line_in (0x01 ∷ []) m 1 ≡ no_levels
  pub whole_two : (m : List ℕ) → length (lines_in (0x01 ∷ []) m) ≡ 2
  -- Line-says, of numbers of several digits, and of the highest
  pub some_said : FieldsSaid (ascii "28 17 00290123 10 3 11\n") 28 17 0x00290123 10 3 11
  pub most_said :
      FieldsSaid (ascii "4294967295 4294967295 FFFFFFFF 4294967295 4294967295 4294967295\n")
      0xFFFFFFFF 0xFFFFFFFF 0xFFFFFFFF 0xFFFFFFFF 0xFFFFFFFF 0xFFFFFFFF
  -- Levels-say of two levels
  pub levels_said : LevelsRead (ascii "LEVELS 9000 0BEF\n") 0x9000 0x0BEF

abbrev pub Lines-met : Type 0
Lines-met = LinesMet

-- ---- Lengths

-- n bytes 00
unfoldable pub zero_bytes : ℕ → List ℕ
zero_bytes n = replicate n 0

-- 65,536 zeros are not too long, and are refused 10 as no bytes are; one more are too long
pub record LengthsMet : Type 0 where
  pub longest : (m : List ℕ) → text (zero_bytes 65536) m ≡ empty_listing
  pub longer : (m : List ℕ) → text (zero_bytes 65537) m ≡ ascii "TOO LONG\n"
  pub memory : (m : List ℕ) → memory_after (zero_bytes 65537) m ≡ m

abbrev pub Lengths-met : Type 0
Lengths-met = LengthsMet

-- ---- What is left

-- the records before the bad one, as a file of their own
abbrev pub good_loads : List ℕ
good_loads =
    0x01
    ∷ 0x00 ∷ 0x07 ∷ 0x01 ∷ 0x00 ∷ 0x00 ∷ 0x00 ∷ 0x00 ∷ 0x00 ∷ 0x00
    ∷ 0x00 ∷ 0x06 ∷ 0x02 ∷ 0x18 ∷ 0x00 ∷ 0x00 ∷ 0x00 ∷ 0x05
    ∷ 0x00 ∷ 0x06 ∷ 0x02 ∷ 0x18 ∷ 0x00 ∷ 0x01 ∷ 0x00 ∷ 0x06
    ∷ []

abbrev pub nine_entries : List ℕ
nine_entries = replicate 9 0xEE

abbrev pub mid_levels : List ℕ
mid_levels = ascii "LEVELS 8000 8000 8000 8000 8000 8000 8000 8000 8000 8000 8000 8000 8000 8000 8000 8000 8000 8000 8000 8000\n"

pub record LeftMet : Type 0 where
  pub memory : memory_after refused_behind_loads nine_entries ≡ memory_after good_loads nine_entries
  pub entries : memory_after refused_behind_loads nine_entries ≡ 5 ∷ 0x10006 ∷ replicate 7 0xEE
  pub texts : (lines : List ℕ)
      × (text good_loads nine_entries ≡ lines ++ mid_levels)
      × (text refused_behind_loads nine_entries ≡ lines ++ ascii "FILE 13 26\n" ++ mid_levels)

abbrev pub Left-met : Type 0
Left-met = LeftMet
