-- The numbers of the listing in other words: read back, digit by digit, they are the number again. And how a listing ends, byte by byte;
-- a whole one, document 01's own; and which files are too long.
use Rattle.std.specs.Prelude.{ℕ, zero, ◌+◌, ◌*◌, ◌-◌, ◌^◌, ◌≤◌, ◌<◌, ◌≡◌, cond, List, [], ◌∷◌, ◌++◌, ltb, length, get_or}
use Rattle.basics.specs.Ascii.{ascii}
use Rattle.listing_rules.specs.Text.{decimal, hex, tail}
use Rattle.listing_rules.specs.Listing.{listing, text}

-- what a digit of either kind stands for
unfoldable pub worth : ℕ → ℕ
worth c = cond (ltb c 58) (c - 48) (c - 55)

-- the number that digits say in a base, the first the most significant; `so` is what those before them said
unfoldable pub said : ℕ → ℕ → List ℕ → ℕ
said base so [] = so
said base so (c ∷ cs) = said base (base * so + worth c) cs

abbrev pub Decimal-said : Type 0
Decimal-said = (n : ℕ) → n < 2 ^ 32 → said 10 0 (decimal n) ≡ n

-- no leading zero but in "0" itself
abbrev pub Decimal-plain : Type 0
Decimal-plain = (n : ℕ) → n < 2 ^ 32 → zero < n → 48 < get_or (decimal n) 0 0

abbrev pub Hex-said : Type 0
Hex-said = (k n : ℕ) → n < 16 ^ k → said 16 0 (hex k n) ≡ n

abbrev pub Hex-long : Type 0
Hex-long = (k n : ℕ) → length (hex k n) ≡ k

abbrev pub Tail-refused : Type 0
Tail-refused =
    tail 12 305 (0x0000 ∷ 0xBEEF ∷ [])
    ≡ ascii "FILE 12 305\n"
    ++ ascii "LEVELS 0000 BEEF\n"

-- no refusal, and no line of one
abbrev pub Tail-plain : Type 0
Tail-plain = tail 0 0 (0xBEEF ∷ []) ≡ ascii "LEVELS BEEF\n"

-- 01's example: a power-up, two channels, two loads, a tick and a read of the buffer register
abbrev pub scope : List ℕ
scope =
    0x01
    ∷ 0x00 ∷ 0x07 ∷ 0x01 ∷ 0x00 ∷ 0x01 ∷ 0x00 ∷ 0x00 ∷ 0x00 ∷ 0x10
    ∷ 0x00 ∷ 0x06 ∷ 0x02 ∷ 0x04 ∷ 0x00 ∷ 0x00 ∷ 0x00 ∷ 0x05
    ∷ 0x00 ∷ 0x06 ∷ 0x02 ∷ 0x0C ∷ 0x00 ∷ 0x00 ∷ 0x00 ∷ 0x20
    ∷ 0x00 ∷ 0x06 ∷ 0x02 ∷ 0x18 ∷ 0x00 ∷ 0x00 ∷ 0x90 ∷ 0x00
    ∷ 0x00 ∷ 0x06 ∷ 0x02 ∷ 0x18 ∷ 0x00 ∷ 0x00 ∷ 0x70 ∷ 0x00
    ∷ 0x00 ∷ 0x01 ∷ 0x04
    ∷ 0x00 ∷ 0x02 ∷ 0x03 ∷ 0x0C
    ∷ []

-- on a board with room for eight values
abbrev pub Scope-listed : Type 0
Scope-listed =
    text scope (0 ∷ 0 ∷ 0 ∷ 0 ∷ 0 ∷ 0 ∷ 0 ∷ 0 ∷ [])
    ≡ ascii "REHEARSAL 1\n"
    ++ ascii "1 0 00000000 0 0 0\n"
    ++ ascii "2 0 00000000 0 0 0\n"
    ++ ascii "3 0 00000000 0 0 0\n"
    ++ ascii "4 0 00000000 0 1 1\n"
    ++ ascii "5 0 00000000 0 1 2\n"
    ++ ascii "6 0 00000000 1 0 1\n"
    ++ ascii "7 0 00002420 0 0 1\n"
    ++ ascii "LEVELS 9000 8000 8000 8000 8000 8000 8000 8000 8000 8000 8000 8000 8000 8000 8000 8000 8000 8000 8000 8000\n"

-- a file that ends inside its first record, at byte 1: "FILE 11 1" on a board that was never powered
abbrev pub Cut-listed : Type 0
Cut-listed =
    text (0x01 ∷ 0x00 ∷ []) []
    ≡ ascii "REHEARSAL 1\n"
    ++ ascii "FILE 11 1\n"
    ++ ascii "LEVELS 0000 0000 0000 0000 0000 0000 0000 0000 0000 0000 0000 0000 0000 0000 0000 0000 0000 0000 0000 0000\n"

-- 01: "(at most 65,536 bytes ..)"; "A longer input prints only `TOO LONG`."
abbrev pub Too-long : Type 0
Too-long = (s m : List ℕ) → 65536 < length s → text s m ≡ ascii "TOO LONG\n"

abbrev pub Not-too-long : Type 0
Not-too-long = (s m : List ℕ) → length s ≤ 65536 → text s m ≡ listing s m
