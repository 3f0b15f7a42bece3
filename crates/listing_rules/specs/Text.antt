-- The listing's text, byte by byte (01, "Session file and listing").
--   decimal n        a number below 2^32 in decimal, without leading zeros
--   hex k n          the last k hexadecimal digits of n, in capitals
--   line k a count   the line of the record number k, which answered a and left count values
--   levels_line ls    the last line: the levels in four digits, channel 00 first
--   file_line n p     the line of a file refusal
--   tail n p ls      how a listing ends
use Rattle.std.specs.Prelude.{ℕ, zero, suc, ◌+◌, ◌/◌, ◌%◌, cond, List, [], ◌∷◌, ◌++◌, eqb, ltb}
use Rattle.basics.specs.Ascii.{ascii, newline, space}
use Rattle.rules.specs.Types.{Answer}

-- ---- Numbers

-- "0" to "9"
abbrev pub digit : ℕ → ℕ
digit d = 48 + d

-- "0" to "9", "A" to "F"
abbrev pub capital : ℕ → ℕ
capital d = cond (ltb d 10) (48 + d) (55 + d)

-- of at most f + 1 digits
unfoldable pub decimal_in : ℕ → ℕ → List ℕ
decimal_in zero n = digit n ∷ []
decimal_in (suc f) n = cond (ltb n 10) (digit n ∷ []) (decimal_in f (n / 10) ++ digit (n % 10) ∷ [])

-- a number below 2^32 has at most ten digits
abbrev pub decimal : ℕ → List ℕ
decimal n = decimal_in 9 n

unfoldable pub hex : ℕ → ℕ → List ℕ
hex zero n = []
hex (suc k) n = hex k (n / 16) ++ capital (n % 16) ∷ []

-- ---- Fixed texts

abbrev pub heading : List ℕ
heading = ascii "REHEARSAL 1\n"

abbrev pub file_head : List ℕ
file_head = ascii "FILE "

abbrev pub levels_head : List ℕ
levels_head = ascii "LEVELS"

abbrev pub too_long : List ℕ
too_long = ascii "TOO LONG\n"

-- ---- Lines

-- 01: "record number, the four answers, count after; the register value in eight hex digits, the others decimal"
unfoldable pub line : ℕ → Answer → ℕ → List ℕ
line k a count =
    decimal k
    ++ space ∷ decimal a.refusal
    ++ space ∷ hex 8 a.register
    ++ space ∷ decimal a.moved
    ++ space ∷ decimal a.fate
    ++ space ∷ decimal count
    ++ newline ∷ []

-- 01: "levels in four, channel 00 first"
unfoldable pub levels_in : List ℕ → List ℕ
levels_in [] = newline ∷ []
levels_in (x ∷ xs) = space ∷ hex 4 x ++ levels_in xs

unfoldable pub levels_line : List ℕ → List ℕ
levels_line levels = levels_head ++ levels_in levels

-- 01: "A file refusal prints `FILE n p`"
unfoldable pub file_line : ℕ → ℕ → List ℕ
file_line n p = file_head ++ decimal n ++ space ∷ decimal p ++ newline ∷ []

-- 01: "A file refusal prints `FILE n p` .. before LEVELS."; n is 0 where there is none
unfoldable pub tail : ℕ → ℕ → List ℕ → List ℕ
tail n p levels = cond (eqb n 0) [] (file_line n p) ++ levels_line levels
