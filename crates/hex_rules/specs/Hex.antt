-- Hex text: two digits a byte, blanks and new lines between bytes, and comments from `#` to the end of the line.
--   mark_of c next x   what a character says, the next one seen; x: it stands in a comment
--   hex_reading t      the bytes that a text says, up to its end or to the place at which it is no hex text
use Rattle.std.specs.Prelude.{ℕ, zero, suc, ◌+◌, ◌*◌, ◌-◌, Bool, true, false, cond, not, ◌&&◌, ◌||◌, List, [], ◌∷◌, leb, ltb, eqb, length, get_or}
use Prim.Native.Char.{code}
use Rattle.basics.specs.Ascii.{nul, tab, newline, return, space}
use Rattle.hex_rules.specs.declared.Mark.{Mark}
use Rattle.hex_rules.specs.declared.Mark.TheVariants.{Passed, Byte, Fault}

-- ---- Characters

-- NUL past the end of the text
abbrev pub char_at : List ℕ → ℕ → ℕ
char_at t at = get_or t at nul

-- "A" and "a" are 10; 16 for any other character
unfoldable pub hex_worth : ℕ → ℕ
hex_worth c =
    cond (leb (code "0") c && leb c (code "9")) (c - code "0")
    (cond (leb (code "A") c && leb c (code "F")) (c - (code "A" - 10))
    (cond (leb (code "a") c && leb c (code "f")) (c - (code "a" - 10)) 16))

-- Below the space, and 127: no editor shows them. A tab, a new line and a carriage return right before a new line are no such characters; a carriage return elsewhere is, since some programs end a line there.
abbrev pub is_control : ℕ → ℕ → Bool
is_control c next = (ltb c space && not ((eqb c tab || eqb c newline) || (eqb c return && eqb next newline))) || eqb c 127

-- a space, a tab, and what ends a line
abbrev pub is_blank : ℕ → Bool
is_blank c = ((eqb c space || eqb c tab) || eqb c newline) || eqb c return

-- from `#` up to the new line
abbrev pub in_comment : Bool → ℕ → Bool
in_comment before c = (before || eqb c (code "#")) && not (eqb c newline)

-- two digits, the first the more significant
unfoldable pub byte_of : ℕ → ℕ → Mark
byte_of high low = cond (ltb 15 high) Fault (cond (ltb 15 low) Fault (Byte (16 * high + low)))

-- a control character is refused in a comment too
unfoldable pub mark_of : ℕ → ℕ → Bool → Mark
mark_of c next x =
    cond (is_control c next) Fault
    (cond (in_comment x c) (Passed true)
    (cond (is_blank c) (Passed false) (byte_of (hex_worth c) (hex_worth next))))

abbrev pub mark_at : List ℕ → ℕ → Bool → Mark
mark_at t at x = mark_of (char_at t at) (char_at t (at + 1)) x

-- ---- The text

-- how a text ends: with its last character, or at a place at which it is no hex text
pub data Stop : Type 0 where
  whole : Stop
  bad : ℕ → Stop

pub record HexReading : Type 0 where
  pub bytes : List ℕ
  pub stop : Stop

-- `rest` is the reading from a later place on, in a comment or not
abbrev pub on_mark : (ℕ → Bool → HexReading) → ℕ → Mark → HexReading
on_mark rest at (Passed x) = rest (at + 1) x
on_mark rest at (Byte b) = record { bytes = b ∷ (rest (at + 2) false).bytes; stop = (rest (at + 2) false).stop }
on_mark rest at Fault = record { bytes = []; stop = bad at }

-- from a place on; the first number bounds how many characters are looked at
unfoldable pub hex_from : ℕ → List ℕ → ℕ → Bool → HexReading
hex_from zero t at x = record { bytes = []; stop = whole }
hex_from (suc f) t at x =
    cond (leb (length t) at) (record { bytes = []; stop = whole }) (on_mark (hex_from f t) at (mark_at t at x))

-- behind the byte order mark of UTF-8, EF BB BF, where the text begins with one
unfoldable pub opening_of : List ℕ → ℕ
opening_of t = cond ((eqb (char_at t 0) 239 && eqb (char_at t 1) 187) && eqb (char_at t 2) 191) 3 0

unfoldable pub hex_reading : List ℕ → HexReading
hex_reading t = hex_from (suc (length t)) t (opening_of t) false
