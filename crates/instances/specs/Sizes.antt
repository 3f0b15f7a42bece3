-- The theorems and laws used: session files that meet their premises, and what each clause then says. One file's answer is neither 0 nor
-- 15, one is played by no size, and one is cut.
use Rattle.std.specs.Prelude.{ℕ, ◌≤◌, ◌≡◌, List, [], ◌∷◌, ◌++◌, replicate, take}
use Rattle.rules.specs.Record.{stored, start}
use Rattle.rules.specs.Session.{after}
use Rattle.rules.specs.Bench.{bor, load, bor?, clk}
use Rattle.file_rules.specs.declared.Fault.TheVariants.{Cut}
use Rattle.file_rules.specs.Item.{File, Refused}
use Rattle.file_rules.specs.Bytes.{file_of}
use Rattle.file_rules.specs.File.{session}
use Rattle.demand3.specs.Demand3.{NothingLost, Agree}
use Rattle.size_rules.specs.Coded.{sized_all}
use Rattle.size_rules.specs.Smallest.{size_refusal, size_code, size_memory}
use Rattle.size_rules.specs.Theorems.{events_with, Plays, Loses}
use Rattle.size_rules.specs.Examples.{fit, loads, lent}

-- seventeen values on a board with a depth of 32, and nine on one with a depth of 8
abbrev pub seventeen : List ℕ
seventeen = file_of (fit 2 ∷ bor 0x2F ∷ loads 17)

abbrev pub nine : List ℕ
nine = file_of (fit 0 ∷ bor 0x2F ∷ loads 9)

-- one value, and then half a length
abbrev pub cut_short : List ℕ
cut_short = file_of (fit 0 ∷ load 5 ∷ []) ++ 0 ∷ []

-- a memory as long as `lent` with other contents
abbrev pub other : List ℕ
other = replicate 32 0xFFFFFFFF

-- ---- The theorems

pub record Sizes-met : Type 0 where
  pub refusal : size_refusal seventeen lent ≡ 0
  pub code : size_code seventeen lent ≡ 2
  -- Named-plays
  pub within : size_code seventeen lent ≤ 15
  pub named : Plays seventeen 32 2
  -- Lower-lose, for both lower codes
  pub lower : Loses seventeen 32 0 × Loses seventeen 32 1
  -- Higher-play, for the code 5, after the first ten events: eight values are stored
  pub higher : NothingLost (start other) (events_with seventeen 5)
  pub agree : Agree (start lent) (take 10 (events_with seventeen 2)) (start other) (take 10 (events_with seventeen 5))
  pub values : stored (after (start lent) (take 10 (events_with seventeen 2))) ≡ 1 ∷ 2 ∷ 3 ∷ 4 ∷ 5 ∷ 6 ∷ 7 ∷ 8 ∷ []
  pub higher_values : stored (after (start other) (take 10 (events_with seventeen 5))) ≡ 1 ∷ 2 ∷ 3 ∷ 4 ∷ 5 ∷ 6 ∷ 7 ∷ 8 ∷ []
  -- None-plays, from the number and to it, over another memory
  pub none : size_refusal nine lent ≡ 19
  pub whole : (session nine).end ≡ File
  pub all : (k : ℕ) → k ≤ 15 → Loses nine 32 k
  pub none_over_other : size_refusal nine other ≡ 19

-- ---- The laws

-- Sized-told: a power-up, a write to 0Ch, another write whose lowest bits are set, a read of 0Ch and a tick, with the code 3
pub record Sized-used : Type 0 where
  pub coded : sized_all 3 (fit 2 ∷ bor 0x12F ∷ load 0x9F ∷ bor? ∷ clk ∷ []) ≡ fit 2 ∷ bor 0x123 ∷ load 0x9F ∷ bor? ∷ clk ∷ []

-- Size-exactly, each line of it: from the numbers over one memory to what they tell of the session, and from there to the numbers over
-- another memory
pub record Exactly-used : Type 0 where
  pub smallest : ((session seventeen).end ≡ File)
      × NothingLost (start other) (events_with seventeen 2)
      × (¬ NothingLost (start other) (events_with seventeen 1))
  pub smallest_over_other : (size_refusal seventeen other ≡ 0) × (size_code seventeen other ≡ 2)
  pub no_size : ((session nine).end ≡ File) × ((k : ℕ) → k ≤ 15 → Loses nine 32 k)
  pub no_size_over_other : (size_refusal nine other ≡ 19) × (size_code nine other ≡ 0)
  pub bad_file : (p : ℕ) × ((session cut_short).end ≡ Refused Cut p)
  pub bad_file_over_other : (size_refusal cut_short other ≡ 11) × (size_code cut_short other ≡ 0)

-- Memory-left
pub record Memory-used : Type 0 where
  -- a replay would have stored 5
  pub untouched : size_memory cut_short lent ≡ lent
  -- codes 0, 1 and 2
  pub named : size_memory seventeen lent
      ≡ 1 ∷ 2 ∷ 3 ∷ 4 ∷ 5 ∷ 6 ∷ 7 ∷ 8 ∷ 9 ∷ 10 ∷ 11 ∷ 12 ∷ 13 ∷ 14 ∷ 15 ∷ 16 ∷ 17 ∷ replicate 15 7
  -- all sixteen
  pub all : size_memory nine lent ≡ 1 ∷ 2 ∷ 3 ∷ 4 ∷ 5 ∷ 6 ∷ 7 ∷ 8 ∷ replicate 24 7
