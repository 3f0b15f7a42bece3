-- Active channels found by counting zeros, as the code finds them: why the count is the search of the definition (`active` of `rules`),
-- which looks at one bit after the other.
--   without x          x without its lowest one: `x & (x - 1)`
--   zeros_to w k mask   where the zeros of a mask lead from bit k up, in a word of w bits: `k + trailing_zeros(mask >> k)`
--   ByZeros            what that says of the channels from k up
use Rattle.std.specs.Prelude.{ℕ, ◌+◌, ◌-◌, ◌/◌, ◌^◌, ◌≤◌, ◌<◌, min, ◌≡◌, refl, [], ◌∷◌}
use Rattle.std.specs.Int.Bits.{bit_and}
use Rattle.std.specs.Int.Count.{count_trailing_zeros}
use Rattle.rules.specs.Bits.{active, active_from, head_or}

-- ---- Words

abbrev pub without : ℕ → ℕ
without x = bit_and x (x - 1)

-- 02: "count trailing zeros on the mask from the cursor up"
abbrev pub zeros_to : ℕ → ℕ → ℕ → ℕ
zeros_to w k mask = k + count_trailing_zeros w (mask / 2 ^ k)

-- channels 3, 16 and 18: past channel 3, the next is 16
example_next : zeros_to 32 4 0x50008 ≡ 16
unfolding count_trailing_zeros
example_next = refl

-- The zeros lead to `at`, and this is known of the n channels from k up:
pub record ByZeros (n k mask rest at : ℕ) : Type 0 where
  -- if `at` is one of them, it is the lowest active one, and the others that are active are those of `rest`
  pub there : at < n + k → active n k mask ≡ at ∷ active n k rest
  -- if it lies past them, none is active
  pub none : n + k ≤ at → active n k mask ≡ []

-- ---- The law

-- For words of every width w that have a bit for each of the channels. `rest` is, from bit k up, the mask without its lowest one.
abbrev pub Zeros-tell : Type 0
Zeros-tell =
    (n w k mask rest : ℕ)
    → n ≤ w
    → rest / 2 ^ k ≡ without (mask / 2 ^ k)
    → ByZeros n k mask rest (zeros_to w k mask)

-- ---- Its two uses

-- the bits of the code's words
abbrev pub word_bits : ℕ
word_bits = 32

-- The search from a cursor k. 01: "to the lowest active channel at or above the cursor". 20 says that there is none, as do zeros that
-- lead past channel 19.
abbrev pub Cursor-zeros : Type 0
Cursor-zeros = (k mask : ℕ) → k ≤ 20 → head_or 20 (active_from k mask) ≡ min (zeros_to word_bits k mask) 20

-- The walk over a group. 01: "as many values as the mask has ones, ascending". First the lowest, and then those of the mask without it.
abbrev pub Group-zeros : Type 0
Group-zeros = (mask : ℕ) → ByZeros 20 0 mask (without mask) (count_trailing_zeros word_bits mask)
