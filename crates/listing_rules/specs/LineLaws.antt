-- Which lines a listing has, and what a line says (01, "Session file and listing"), in other words than the definitions: the text is cut
-- at its newlines, and a line at its spaces.
--   cut_behind c t   the pieces of a text, cut behind each character c
--   Lines-listed    the heading, a line for each event, one for a file refusal, the levels, and no other
--   Line-says       six fields between single spaces and a newline, each read back to its number
--   Levels-say      LEVELS, and each level in its turn, read back
use Rattle.std.specs.Prelude.{ℕ, ◌+◌, ◌^◌, ◌<◌, ◌≡◌, cond, List, [], ◌∷◌, ◌++◌, eqb, length, get_or}
use Rattle.rules.specs.Types.{Answer}
use Rattle.rules.specs.declared.Event.{Event}
use Rattle.rules.specs.Record.{start}
use Rattle.rules.specs.Step.{Outcome, step}
use Rattle.rules.specs.Session.{after}
use Rattle.file_rules.specs.declared.Fault.{Fault}
use Rattle.file_rules.specs.Item.{File, Refused}
use Rattle.file_rules.specs.File.{fault_number, session}
use Rattle.basics.specs.Ascii.{ascii, newline, space}
use Rattle.listing_rules.specs.Text.{decimal, line, levels_line}
use Rattle.listing_rules.specs.Listing.{levels_of, listing}
use Rattle.listing_rules.specs.Laws.{said}

-- ---- Pieces of a text

-- a character in front of the first piece
abbrev pub on_first : ℕ → List (List ℕ) → List (List ℕ)
on_first x [] = (x ∷ []) ∷ []
on_first x (l ∷ ls) = (x ∷ l) ∷ ls

unfoldable pub cut_behind : ℕ → List ℕ → List (List ℕ)
cut_behind c [] = []
cut_behind c (x ∷ xs) = cond (eqb x c) ((x ∷ []) ∷ cut_behind c xs) (on_first x (cut_behind c xs))

-- ---- The lines of a listing

abbrev pub lines_in : List ℕ → List ℕ → List (List ℕ)
lines_in s m = cut_behind newline (listing s m)

-- line k, the heading being line 0
abbrev pub line_in : List ℕ → List ℕ → ℕ → List ℕ
line_in s m k = get_or (lines_in s m) k []

-- the line of an outcome
abbrev pub outcome_line : ℕ → Outcome → List ℕ
outcome_line k o = line k o.answer o.state.board.ring.count

pub record LinesListed (s m : List ℕ) (es : List Event) : Type 0 where
  pub heading : line_in s m 0 ≡ ascii "REHEARSAL 1\n"
  -- 01: "A run .. goes on past refused events and lost values": each event has its line, whatever became of it and of those before it,
  -- and "record number" counts them all
  pub events :
      (before behind : List Event) (e : Event)
      → es ≡ before ++ e ∷ behind
      → line_in s m (length before + 1) ≡ outcome_line (length before + 1) (step (after (start m) before) e)
  -- a file that is not refused: the levels, and that is all
  pub whole : (session s).end ≡ File
      → (length (lines_in s m) ≡ length es + 2) × (line_in s m (length es + 1) ≡ levels_line (levels_of (after (start m) es)))
  -- 01: "A file refusal prints `FILE n p` .. before LEVELS."
  pub refused : (why : Fault) (p : ℕ) → (session s).end ≡ Refused why p
      → (length (lines_in s m) ≡ length es + 3)
      × (line_in s m (length es + 1) ≡ ascii "FILE " ++ decimal (fault_number why) ++ ascii " " ++ decimal p ++ ascii "\n")
      × (line_in s m (length es + 2) ≡ levels_line (levels_of (after (start m) es)))

abbrev pub Lines-listed : Type 0
Lines-listed = (s m : List ℕ) → LinesListed s m (session s).events

-- ---- What a line says

-- these characters are n in decimal: no leading zero but in "0" itself
pub record InDecimal (n : ℕ) (digits : List ℕ) : Type 0 where
  pub says : said 10 0 digits ≡ n
  pub some : 0 < length digits
  pub plain : 1 < length digits → 48 < get_or digits 0 0

-- these are n in eight hexadecimal digits
pub record InEightHex (n : ℕ) (digits : List ℕ) : Type 0 where
  pub says : said 16 0 digits ≡ n
  pub eight : length digits ≡ 8

-- 01: "Fields: record number, the four answers, count after; the register value in eight hex digits, the others decimal"
pub record LineSays (k : ℕ) (a : Answer) (count : ℕ) (l : List ℕ) : Type 0 where
  pub number_field : List ℕ
  pub refusal_field : List ℕ
  pub register_field : List ℕ
  pub moved_field : List ℕ
  pub fate_field : List ℕ
  pub count_field : List ℕ
  pub fields : cut_behind space l
      ≡ (number_field ++ ascii " ")
      ∷ (refusal_field ++ ascii " ")
      ∷ (register_field ++ ascii " ")
      ∷ (moved_field ++ ascii " ")
      ∷ (fate_field ++ ascii " ")
      ∷ (count_field ++ ascii "\n")
      ∷ []
  pub number_said : InDecimal k number_field
  pub refusal_said : InDecimal a.refusal refusal_field
  pub register_said : InEightHex a.register register_field
  pub moved_said : InDecimal a.moved moved_field
  pub fate_said : InDecimal a.fate fate_field
  pub count_said : InDecimal count count_field

abbrev pub Line-says : Type 0
Line-says =
    (k : ℕ) (a : Answer) (count : ℕ)
    → k < 2 ^ 32
    → a.refusal < 2 ^ 32
    → a.register < 2 ^ 32
    → a.moved < 2 ^ 32
    → a.fate < 2 ^ 32
    → count < 2 ^ 32
    → LineSays k a count (line k a count)

-- ---- What the line of levels says

-- pieces of a text that say these levels, each in four digits with a space behind it, and the last with a newline
pub data LevelsSaid : List ℕ → List (List ℕ) → Type 0 where
  last : (x : ℕ) (digits : List ℕ) → said 16 0 digits ≡ x → length digits ≡ 4 → LevelsSaid (x ∷ []) ((digits ++ ascii "\n") ∷ [])
  level : (x : ℕ) (digits xs : List ℕ) (ps : List (List ℕ))
      → said 16 0 digits ≡ x
      → length digits ≡ 4
      → LevelsSaid xs ps
      → LevelsSaid (x ∷ xs) ((digits ++ ascii " ") ∷ ps)

-- 01: "levels in four, channel 00 first"
abbrev pub Levels-say : Type 0
Levels-say =
    (x : ℕ) (xs : List ℕ)
    → ((i : ℕ) → get_or (x ∷ xs) i 0 < 2 ^ 16)
    → (ps : List (List ℕ)) × (cut_behind space (levels_line (x ∷ xs)) ≡ ascii "LEVELS " ∷ ps) × LevelsSaid (x ∷ xs) ps
