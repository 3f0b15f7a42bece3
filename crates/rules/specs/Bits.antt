-- Bits, and choices among them: what the registers and the channel mask are written with.
--   bit k v         bit k of v; the manual's Dk
--   bits_of n v      the n lowest bits of v, D00 first
--   number bs       the number whose bits are bs, D00 first
--   active_from k m  the channels from k up to 19 whose bit of the mask m is set, ascending
--   all, some       every one, at least one of a list of tests
--   only_if a b      a only if b
use Rattle.std.specs.Prelude.{ℕ, zero, suc, ◌+◌, ◌*◌, ◌/◌, ◌%◌, ◌^◌, ◌-◌, ◌≡◌, refl, Bool, true, false, ◌&&◌, ◌||◌, cond, List, [], ◌∷◌, eqb}

-- ---- A number's bits

abbrev pub bit : ℕ → ℕ → Bool
bit k v = eqb (v / 2 ^ k % 2) 1

unfoldable pub bits_of : ℕ → ℕ → List Bool
bits_of zero v = []
bits_of (suc n) v = bit 0 v ∷ bits_of n (v / 2)

unfoldable pub flag : Bool → ℕ
flag true = 1
flag false = 0

unfoldable pub number : List Bool → ℕ
number [] = 0
number (b ∷ bs) = flag b + 2 * number bs

example_number : number (bits_of 4 6) ≡ 6
unfolding number bits_of flag
example_number = refl

-- ---- Channels

-- of the n channels from k up, those whose bit is set
unfoldable pub active : ℕ → ℕ → ℕ → List ℕ
active zero k mask = []
active (suc n) k mask = cond (bit k mask) (k ∷ active n (suc k) mask) (active n (suc k) mask)

abbrev pub active_from : ℕ → ℕ → List ℕ
active_from k mask = active (20 - k) k mask

example_active : active_from 3 0x50008 ≡ 3 ∷ 16 ∷ 18 ∷ []
unfolding active
example_active = refl

unfoldable pub head_or : ℕ → List ℕ → ℕ
head_or d [] = d
head_or d (x ∷ xs) = x

-- ---- Tests

unfoldable pub all : List Bool → Bool
all [] = true
all (t ∷ ts) = t && all ts

unfoldable pub some : List Bool → Bool
some [] = false
some (t ∷ ts) = t || some ts

unfoldable pub only_if : Bool → Bool → Bool
only_if true b = b
only_if false b = true
