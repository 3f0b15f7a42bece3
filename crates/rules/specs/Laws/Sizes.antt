-- How much a board holds, code by code.
--   s ⊑ t    of the sizes s and t, neither code of t is lower
use Rattle.std.specs.Prelude.{ℕ, suc, ◌+◌, ◌≤◌, ◌≡◌, false}
use Rattle.rules.specs.Types.{Size}
use Rattle.rules.specs.Record.{depth_of, active_size}
use Rattle.rules.specs.Flags.{is_full}

-- 01: "The depth is 8·2^d values.": 8 at code 0, and for each code more twice as many
pub record Depths : Type 0 where
  pub least : depth_of 0 ≡ 8
  pub doubles : (d : ℕ) → depth_of (suc d) ≡ depth_of d + depth_of d

abbrev pub Depth-doubles : Type 0
Depth-doubles = Depths

-- 01: "The active size is 8·2^m, where m is the lesser of size code and d.": the depth of the lesser code
pub record OfTheLesser (z : Size) : Type 0 where
  pub written : z.code ≤ z.fitted → active_size z ≡ depth_of z.code
  pub fitted : z.fitted ≤ z.code → active_size z ≡ depth_of z.fitted

abbrev pub Size-lesser : Type 0
Size-lesser = (z : Size) → OfTheLesser z

-- ---- Sizes of which neither code is lower

infix 20 ◌⊑◌
pub record ◌⊑◌ (s t : Size) : Type 0 where
  pub fitted : s.fitted ≤ t.fitted
  pub code : s.code ≤ t.code

abbrev pub Size-grows : Type 0
Size-grows = (s t : Size) → s ⊑ t → active_size s ≤ active_size t

-- 01: "full at count ≥ size": at one count, the larger buffer is full no sooner
abbrev pub Full-later : Type 0
Full-later = (s t : Size) (n : ℕ) → s ⊑ t → is_full s n ≡ false → is_full t n ≡ false
