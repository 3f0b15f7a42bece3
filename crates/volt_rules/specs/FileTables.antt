-- Session files, byte by byte, and the whole table that each of them gets (`Files-shown`; its proof is by computation).
use Rattle.std.specs.Prelude.{ℕ, ◌≡◌, List, [], ◌∷◌, ◌++◌, replicate}
use Rattle.volt_rules.specs.declared.Extremes.{Extremes}
use Rattle.volt_rules.specs.Table.{table_refusal, table_channels, table_memory}
use Rattle.volt_rules.specs.Examples.{scaled}

-- a file and a sample memory, and what is to come of them: the refusal, the numbers of all twenty channels, the memory
pub record FileTable : Type 0 where
  pub bytes : List ℕ
  pub lent : List ℕ
  pub refusal : ℕ
  pub numbers : List ℕ
  pub left : List ℕ

-- lowest, highest and last of each channel, signs and 65,536ths of a volt
unfoldable pub table_numbers : List Extremes → List ℕ
table_numbers [] = []
table_numbers (x ∷ xs) = scaled x.lowest ++ (scaled x.highest ++ (scaled x.last ++ table_numbers xs))

-- ---- Files

-- nine entries, on boards with a depth of eight; something is left over in them
abbrev pub junk : List ℕ
junk = replicate 9 0xFFFFFFFF

abbrev pub all_zeros : List ℕ
all_zeros = replicate 120 0

-- Two power-ups are accepted and a third is not, a value is lost, and the levels change afterwards.
abbrev pub two_power_ups : List ℕ
two_power_ups =
    0x01
    -- range 2, the clock enabled, and 0000h on channel 0: 10 volts below zero
    ∷ 0x00 ∷ 0x07 ∷ 0x01 ∷ 0x00 ∷ 0x02 ∷ 0x00 ∷ 0x00 ∷ 0x00 ∷ 0x00
    ∷ 0x00 ∷ 0x06 ∷ 0x02 ∷ 0x0C ∷ 0x00 ∷ 0x00 ∷ 0x00 ∷ 0x20
    ∷ 0x00 ∷ 0x06 ∷ 0x02 ∷ 0x18 ∷ 0x00 ∷ 0x00 ∷ 0x00 ∷ 0x00
    ∷ 0x00 ∷ 0x01 ∷ 0x04
    -- another, in range 1: channels 0 and 1, three values, and the buffer closed, so that a fourth is lost to it
    ∷ 0x00 ∷ 0x07 ∷ 0x01 ∷ 0x00 ∷ 0x01 ∷ 0x00 ∷ 0x00 ∷ 0x00 ∷ 0x00
    ∷ 0x00 ∷ 0x06 ∷ 0x02 ∷ 0x04 ∷ 0x00 ∷ 0x00 ∷ 0x00 ∷ 0x03
    ∷ 0x00 ∷ 0x06 ∷ 0x02 ∷ 0x18 ∷ 0x00 ∷ 0x00 ∷ 0x40 ∷ 0x00
    ∷ 0x00 ∷ 0x06 ∷ 0x02 ∷ 0x18 ∷ 0x00 ∷ 0x00 ∷ 0x90 ∷ 0x00
    ∷ 0x00 ∷ 0x06 ∷ 0x02 ∷ 0x18 ∷ 0x00 ∷ 0x00 ∷ 0xE0 ∷ 0x00
    ∷ 0x00 ∷ 0x06 ∷ 0x02 ∷ 0x0C ∷ 0x00 ∷ 0x00 ∷ 0x01 ∷ 0x20
    ∷ 0x00 ∷ 0x06 ∷ 0x02 ∷ 0x18 ∷ 0x00 ∷ 0x00 ∷ 0x00 ∷ 0x00
    -- 4000h on channel 0; a power-up with range code 3 is refused; 9000h on channel 1 and E000h on channel 0; an unknown offset is refused
    ∷ 0x00 ∷ 0x01 ∷ 0x04
    ∷ 0x00 ∷ 0x07 ∷ 0x01 ∷ 0x00 ∷ 0x03 ∷ 0x00 ∷ 0x00 ∷ 0x00 ∷ 0x00
    ∷ 0x00 ∷ 0x01 ∷ 0x04
    ∷ 0x00 ∷ 0x01 ∷ 0x04
    ∷ 0x00 ∷ 0x02 ∷ 0x03 ∷ 0x20
    -- 4000h on channel 1, 9000h on channel 0, E000h on channel 1
    ∷ 0x00 ∷ 0x01 ∷ 0x04 ∷ 0x00 ∷ 0x01 ∷ 0x04 ∷ 0x00 ∷ 0x01 ∷ 0x04
    ∷ []

-- range 1, channel 0 alone, the clock enabled, and 15432h, with its EOF, played: 5432h
abbrev pub one_level : List ℕ
one_level =
    0x01
    ∷ 0x00 ∷ 0x07 ∷ 0x01 ∷ 0x00 ∷ 0x01 ∷ 0x00 ∷ 0x00 ∷ 0x00 ∷ 0x00
    ∷ 0x00 ∷ 0x06 ∷ 0x02 ∷ 0x04 ∷ 0x00 ∷ 0x00 ∷ 0x00 ∷ 0x01
    ∷ 0x00 ∷ 0x06 ∷ 0x02 ∷ 0x0C ∷ 0x00 ∷ 0x00 ∷ 0x00 ∷ 0x20
    ∷ 0x00 ∷ 0x06 ∷ 0x02 ∷ 0x18 ∷ 0x00 ∷ 0x01 ∷ 0x54 ∷ 0x32
    ∷ 0x00 ∷ 0x01 ∷ 0x04
    ∷ []

-- and 8000h after it
abbrev pub back_again : List ℕ
back_again = one_level ++ (0x00 ∷ 0x06 ∷ 0x02 ∷ 0x18 ∷ 0x00 ∷ 0x00 ∷ 0x80 ∷ 0x00 ∷ 0x00 ∷ 0x01 ∷ 0x04 ∷ [])

-- range 0, channel 0 alone, the clock enabled; eight values fill the buffer, the ninth is lost to it; F000h, the first,
-- is played, and a tenth takes its place
abbrev pub ninth_lost : List ℕ
ninth_lost =
    0x01
    ∷ 0x00 ∷ 0x07 ∷ 0x01 ∷ 0x00 ∷ 0x00 ∷ 0x00 ∷ 0x00 ∷ 0x00 ∷ 0x00
    ∷ 0x00 ∷ 0x06 ∷ 0x02 ∷ 0x04 ∷ 0x00 ∷ 0x00 ∷ 0x00 ∷ 0x01
    ∷ 0x00 ∷ 0x06 ∷ 0x02 ∷ 0x0C ∷ 0x00 ∷ 0x00 ∷ 0x00 ∷ 0x20
    ∷ 0x00 ∷ 0x06 ∷ 0x02 ∷ 0x18 ∷ 0x00 ∷ 0x00 ∷ 0xF0 ∷ 0x00
    ∷ 0x00 ∷ 0x06 ∷ 0x02 ∷ 0x18 ∷ 0x00 ∷ 0x00 ∷ 0x10 ∷ 0x02
    ∷ 0x00 ∷ 0x06 ∷ 0x02 ∷ 0x18 ∷ 0x00 ∷ 0x00 ∷ 0x10 ∷ 0x03
    ∷ 0x00 ∷ 0x06 ∷ 0x02 ∷ 0x18 ∷ 0x00 ∷ 0x00 ∷ 0x10 ∷ 0x04
    ∷ 0x00 ∷ 0x06 ∷ 0x02 ∷ 0x18 ∷ 0x00 ∷ 0x00 ∷ 0x10 ∷ 0x05
    ∷ 0x00 ∷ 0x06 ∷ 0x02 ∷ 0x18 ∷ 0x00 ∷ 0x00 ∷ 0x10 ∷ 0x06
    ∷ 0x00 ∷ 0x06 ∷ 0x02 ∷ 0x18 ∷ 0x00 ∷ 0x00 ∷ 0x10 ∷ 0x07
    ∷ 0x00 ∷ 0x06 ∷ 0x02 ∷ 0x18 ∷ 0x00 ∷ 0x00 ∷ 0x10 ∷ 0x08
    ∷ 0x00 ∷ 0x06 ∷ 0x02 ∷ 0x18 ∷ 0x00 ∷ 0x00 ∷ 0x10 ∷ 0x09
    ∷ 0x00 ∷ 0x01 ∷ 0x04
    ∷ 0x00 ∷ 0x06 ∷ 0x02 ∷ 0x18 ∷ 0x00 ∷ 0x00 ∷ 0x10 ∷ 0x0A
    ∷ []

-- a power-up that is refused, with range code 3
abbrev pub not_powered : List ℕ
not_powered = 0x01 ∷ 0x00 ∷ 0x07 ∷ 0x01 ∷ 0x00 ∷ 0x03 ∷ 0x00 ∷ 0x00 ∷ 0x00 ∷ 0x00 ∷ []

-- ---- The table

unfoldable pub file_tables : List FileTable
file_tables =
    -- "another accepted power-up starts afresh": since the second one 2.5 volts below zero, 3.75 above and 0.625 at the end on channel 0; on
    -- channel 1 the same, but that 3.75 come at the end. "The sample memory is as the run left it": three values went round and filled it
    record {
      bytes = two_power_ups;
      lent = junk;
      refusal = 0;
      numbers = 1 ∷ 163840 ∷ 0 ∷ 245760 ∷ 0 ∷ 40960 ∷ 1 ∷ 163840 ∷ 0 ∷ 245760 ∷ 0 ∷ 245760 ∷ replicate 108 0;
      left = 0xE000 ∷ 0x9000 ∷ 0xE000 ∷ 0x4000 ∷ 0x9000 ∷ 0xE000 ∷ 0x4000 ∷ 0x9000 ∷ 0xFFFFFFFF ∷ [];
    }
    ∷ record {
      bytes = one_level;
      lent = junk;
      refusal = 0;
      numbers = 1 ∷ 112140 ∷ 0 ∷ 0 ∷ 1 ∷ 112140 ∷ replicate 114 0;
      left = 0x15432 ∷ replicate 8 0xFFFFFFFF;
    }
    ∷ record {
      bytes = ninth_lost;
      lent = junk;
      refusal = 0;
      numbers = 0 ∷ 0 ∷ 0 ∷ 143360 ∷ 0 ∷ 143360 ∷ replicate 114 0;
      left = 0x100A ∷ 0x1002 ∷ 0x1003 ∷ 0x1004 ∷ 0x1005 ∷ 0x1006 ∷ 0x1007 ∷ 0x1008 ∷ 0xFFFFFFFF ∷ [];
    }
    -- "Zero is positive zero", though it comes back from below
    ∷ record {
      bytes = back_again;
      lent = junk;
      refusal = 0;
      numbers = 1 ∷ 112140 ∷ replicate 118 0;
      left = 0x15432 ∷ 0x8000 ∷ replicate 7 0xFFFFFFFF;
    }
    -- "18 when the session has no accepted power-up": no event at all; a power-up that is refused; one that is refused by a short memory
    ∷ record { bytes = 0x01 ∷ []; lent = junk; refusal = 18; numbers = all_zeros; left = junk }
    ∷ record { bytes = not_powered; lent = junk; refusal = 18; numbers = all_zeros; left = junk }
    ∷ record { bytes = one_level; lent = 0xFFFFFFFF ∷ []; refusal = 18; numbers = all_zeros; left = 0xFFFFFFFF ∷ [] }
    -- "file refusals 10 to 13 come first": with no power-up
    ∷ record { bytes = []; lent = junk; refusal = 10; numbers = all_zeros; left = junk }
    ∷ record { bytes = 0x01 ∷ 0x00 ∷ []; lent = junk; refusal = 11; numbers = all_zeros; left = junk }
    ∷ record { bytes = 0x01 ∷ 0x00 ∷ 0x00 ∷ []; lent = junk; refusal = 12; numbers = all_zeros; left = junk }
    ∷ record { bytes = 0x01 ∷ 0x00 ∷ 0x01 ∷ 0x0A ∷ []; lent = junk; refusal = 13; numbers = all_zeros; left = junk }
    -- and after one: "all of them return all zeros", and the memory is as the run left it
    ∷ record {
      bytes = one_level ++ (0x00 ∷ []);
      lent = junk;
      refusal = 11;
      numbers = all_zeros;
      left = 0x15432 ∷ replicate 8 0xFFFFFFFF;
    }
    ∷ record {
      bytes = one_level ++ (0x00 ∷ 0x01 ∷ 0x0A ∷ []);
      lent = junk;
      refusal = 13;
      numbers = all_zeros;
      left = 0x15432 ∷ replicate 8 0xFFFFFFFF;
    }
    ∷ []

pub record Gets (x : FileTable) : Type 0 where
  pub refusal : table_refusal x.bytes x.lent ≡ x.refusal
  pub numbers : table_numbers (table_channels x.bytes x.lent) ≡ x.numbers
  pub left : table_memory x.bytes x.lent ≡ x.left

pub data AllGet : List FileTable → Type 0 where
  none : AllGet []
  next : {x : FileTable} {xs : List FileTable} → Gets x → AllGet xs → AllGet (x ∷ xs)

abbrev pub Files-shown : Type 0
Files-shown = AllGet file_tables
