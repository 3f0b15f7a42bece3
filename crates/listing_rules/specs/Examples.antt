-- Whole listings, byte by byte, beside those of Laws.antt: one with refusals, both losses and numbers of several digits, and that of the
-- empty file; and memories after files, entry by entry.
use Rattle.std.specs.Prelude.{ℕ, ◌≡◌, List, [], ◌∷◌, ◌++◌, replicate}
use Rattle.basics.specs.Ascii.{ascii}
use Rattle.listing_rules.specs.Listing.{text, memory_after}
use Rattle.listing_rules.specs.Laws.{scope}

-- 01: "A run starts unpowered and goes on past refused events and lost values. A file refusal stops it"
abbrev pub mixed : List ℕ
mixed =
    0x01
    -- a read of an unpowered board, refused 3
    ∷ 0x00 ∷ 0x02 ∷ 0x03 ∷ 0x0C
    -- power-ups of range 3 and of firmware 4096, refused 14 and 17
    ∷ 0x00 ∷ 0x07 ∷ 0x01 ∷ 0x01 ∷ 0x03 ∷ 0x00 ∷ 0x00 ∷ 0x00 ∷ 0x00
    ∷ 0x00 ∷ 0x07 ∷ 0x01 ∷ 0x01 ∷ 0x00 ∷ 0x00 ∷ 0x00 ∷ 0x10 ∷ 0x00
    -- a good one: depth 16, twenty channels, range 1, filter 2, firmware 123h; its options read
    ∷ 0x00 ∷ 0x07 ∷ 0x01 ∷ 0x01 ∷ 0x01 ∷ 0x02 ∷ 0x02 ∷ 0x01 ∷ 0x23
    ∷ 0x00 ∷ 0x02 ∷ 0x03 ∷ 0x10
    -- simultaneous outputs in offset binary, channels 00 to 09, size 16, and eleven loads
    ∷ 0x00 ∷ 0x06 ∷ 0x02 ∷ 0x00 ∷ 0x00 ∷ 0x00 ∷ 0x00 ∷ 0x90
    ∷ 0x00 ∷ 0x06 ∷ 0x02 ∷ 0x04 ∷ 0x00 ∷ 0x00 ∷ 0x03 ∷ 0xFF
    ∷ 0x00 ∷ 0x06 ∷ 0x02 ∷ 0x0C ∷ 0x00 ∷ 0x00 ∷ 0x00 ∷ 0x01
    ∷ 0x00 ∷ 0x06 ∷ 0x02 ∷ 0x18 ∷ 0x00 ∷ 0x00 ∷ 0x00 ∷ 0x01
    ∷ 0x00 ∷ 0x06 ∷ 0x02 ∷ 0x18 ∷ 0x00 ∷ 0x00 ∷ 0x00 ∷ 0x02
    ∷ 0x00 ∷ 0x06 ∷ 0x02 ∷ 0x18 ∷ 0x00 ∷ 0x00 ∷ 0x00 ∷ 0x03
    ∷ 0x00 ∷ 0x06 ∷ 0x02 ∷ 0x18 ∷ 0x00 ∷ 0x00 ∷ 0x00 ∷ 0x04
    ∷ 0x00 ∷ 0x06 ∷ 0x02 ∷ 0x18 ∷ 0x00 ∷ 0x00 ∷ 0x00 ∷ 0x05
    ∷ 0x00 ∷ 0x06 ∷ 0x02 ∷ 0x18 ∷ 0x00 ∷ 0x00 ∷ 0x00 ∷ 0x06
    ∷ 0x00 ∷ 0x06 ∷ 0x02 ∷ 0x18 ∷ 0x00 ∷ 0x00 ∷ 0x00 ∷ 0x07
    ∷ 0x00 ∷ 0x06 ∷ 0x02 ∷ 0x18 ∷ 0x00 ∷ 0x00 ∷ 0x00 ∷ 0x08
    ∷ 0x00 ∷ 0x06 ∷ 0x02 ∷ 0x18 ∷ 0x00 ∷ 0x00 ∷ 0x00 ∷ 0x09
    ∷ 0x00 ∷ 0x06 ∷ 0x02 ∷ 0x18 ∷ 0x00 ∷ 0x00 ∷ 0x00 ∷ 0x0A
    ∷ 0x00 ∷ 0x06 ∷ 0x02 ∷ 0x18 ∷ 0x00 ∷ 0x00 ∷ 0x00 ∷ 0x0B
    -- the size cut to 8: a load lost to the full buffer
    ∷ 0x00 ∷ 0x06 ∷ 0x02 ∷ 0x0C ∷ 0x00 ∷ 0x00 ∷ 0x00 ∷ 0x00
    ∷ 0x00 ∷ 0x06 ∷ 0x02 ∷ 0x18 ∷ 0x00 ∷ 0x00 ∷ 0x00 ∷ 0x0C
    -- the buffer closed: a load lost to it, and both overflow flags read
    ∷ 0x00 ∷ 0x06 ∷ 0x02 ∷ 0x0C ∷ 0x00 ∷ 0x01 ∷ 0x01 ∷ 0x20
    ∷ 0x00 ∷ 0x06 ∷ 0x02 ∷ 0x18 ∷ 0x00 ∷ 0x00 ∷ 0x00 ∷ 0x0D
    ∷ 0x00 ∷ 0x02 ∷ 0x03 ∷ 0x0C
    -- open again: a tick, and ten values move
    ∷ 0x00 ∷ 0x06 ∷ 0x02 ∷ 0x0C ∷ 0x00 ∷ 0x03 ∷ 0x00 ∷ 0x20
    ∷ 0x00 ∷ 0x01 ∷ 0x04
    -- settled while not settling, refused 7; a write to 10h, refused 5
    ∷ 0x00 ∷ 0x01 ∷ 0x09
    ∷ 0x00 ∷ 0x06 ∷ 0x02 ∷ 0x10 ∷ 0x00 ∷ 0x00 ∷ 0x00 ∷ 0x05
    -- a record of kind 10, at byte 206
    ∷ 0x00 ∷ 0x01 ∷ 0x0A
    ∷ []

abbrev pub mixed_listing : List ℕ
mixed_listing =
    ascii "REHEARSAL 1\n"
    ++ ascii "1 3 00000000 0 0 0\n"
    ++ ascii "2 14 00000000 0 0 0\n"
    ++ ascii "3 17 00000000 0 0 0\n"
    ++ ascii "4 0 00000000 0 0 0\n"
    ++ ascii "5 0 00290123 0 0 0\n"
    ++ ascii "6 0 00000000 0 0 0\n"
    ++ ascii "7 0 00000000 0 0 0\n"
    ++ ascii "8 0 00000000 0 0 0\n"
    ++ ascii "9 0 00000000 0 1 1\n"
    ++ ascii "10 0 00000000 0 1 2\n"
    ++ ascii "11 0 00000000 0 1 3\n"
    ++ ascii "12 0 00000000 0 1 4\n"
    ++ ascii "13 0 00000000 0 1 5\n"
    ++ ascii "14 0 00000000 0 1 6\n"
    ++ ascii "15 0 00000000 0 1 7\n"
    ++ ascii "16 0 00000000 0 1 8\n"
    ++ ascii "17 0 00000000 0 1 9\n"
    ++ ascii "18 0 00000000 0 1 10\n"
    ++ ascii "19 0 00000000 0 1 11\n"
    ++ ascii "20 0 00000000 0 0 11\n"
    ++ ascii "21 0 00000000 0 2 11\n"
    ++ ascii "22 0 00000000 0 0 11\n"
    ++ ascii "23 0 00000000 0 3 11\n"
    ++ ascii "24 0 0003C120 0 0 11\n"
    ++ ascii "25 0 00000000 0 0 11\n"
    ++ ascii "26 0 00000000 10 0 1\n"
    ++ ascii "27 7 00000000 0 0 1\n"
    ++ ascii "28 5 00000000 0 0 1\n"
    ++ ascii "FILE 13 206\n"
    ++ ascii "LEVELS 0001 0002 0003 0004 0005 0006 0007 0008 0009 000A 8000 8000 8000 8000 8000 8000 8000 8000 8000 8000\n"

-- on a board with room for sixteen values
abbrev pub Mixed-listed : Type 0
Mixed-listed = text mixed (replicate 16 0) ≡ mixed_listing

abbrev pub empty_listing : List ℕ
empty_listing =
    ascii "REHEARSAL 1\n"
    ++ ascii "FILE 10 0\n"
    ++ ascii "LEVELS 0000 0000 0000 0000 0000 0000 0000 0000 0000 0000 0000 0000 0000 0000 0000 0000 0000 0000 0000 0000\n"

-- 01: "10 session file empty ..", "0 for refusal 10"; on any memory
abbrev pub Empty-listed : Type 0
Empty-listed = (m : List ℕ) → text [] m ≡ empty_listing

-- a power-up of depth 8, the loads 5 and 10006h, and then a record of kind 10 with a load behind it
abbrev pub refused_behind_loads : List ℕ
refused_behind_loads =
    0x01
    ∷ 0x00 ∷ 0x07 ∷ 0x01 ∷ 0x00 ∷ 0x00 ∷ 0x00 ∷ 0x00 ∷ 0x00 ∷ 0x00
    ∷ 0x00 ∷ 0x06 ∷ 0x02 ∷ 0x18 ∷ 0x00 ∷ 0x00 ∷ 0x00 ∷ 0x05
    ∷ 0x00 ∷ 0x06 ∷ 0x02 ∷ 0x18 ∷ 0x00 ∷ 0x01 ∷ 0x00 ∷ 0x06
    ∷ 0x00 ∷ 0x01 ∷ 0x0A
    ∷ 0x00 ∷ 0x06 ∷ 0x02 ∷ 0x18 ∷ 0x00 ∷ 0x00 ∷ 0x00 ∷ 0x07
    ∷ []

-- 01: "A file refusal stops it, and record and memory stay as the earlier records left them."
pub record MemoriesTold : Type 0 where
  pub refused : memory_after refused_behind_loads (replicate 9 0xEE) ≡ 5 ∷ 0x10006 ∷ replicate 7 0xEE
  -- no record before it
  pub version_2 : memory_after (0x02 ∷ []) (replicate 3 0xEE) ≡ replicate 3 0xEE
  -- 01's example, which is not refused
  pub done : memory_after scope (replicate 9 0xEE) ≡ 0x9000 ∷ 0x7000 ∷ replicate 7 0xEE

abbrev pub Memories-told : Type 0
Memories-told = MemoriesTold
