-- The channels of a mask, taken off one by one: the lowest is the head of their list, and the mask without it has the tail; and that none
-- is above channel 19.
use Prim.Native.Nat.{ℕ, zero, suc, ◌+◌, ◌%◌, ◌^◌, ◌<◌}
use mathlib.Core.Path.{◌≡◌, refl, ap, ◌∙◌}
use mathlib.Core.Logic.{⊎_elim}
use mathlib.Core.List.{List, [], ◌∷◌}
use native.Mathlib.Omega.{arith}
use lib.Count.{count_trailing_zeros}
use Rattle.rules.specs.Bits.{bit, active, active_from}
use Rattle.rules.proofs.Choice.{cases}
use Rattle.laws.specs.Moved.{Among}
use Rattle.laws.specs.Search.{without}
use Rattle.laws.proofs.Actives.{active_low}
use Rattle.laws.proofs.Among.{among_nil, among_cons}
use Rattle.laws.proofs.Search.{zeros_below, group_zeros}

-- the mask 0 has no channels
pub no_channels : active_from 0 0 ≡ []
unfolding active
no_channels = refl

pub lowest_taken : (mask : ℕ) → 0 < mask → mask < 2 ^ 20 → active_from 0 mask ≡ count_trailing_zeros 32 mask ∷ active_from 0 (without mask)
lowest_taken mask h l = (group_zeros mask).there (zeros_below 20 32 mask (omega arith) h l)

below : (n k mask j : ℕ) → Among j (active n k mask) → j < n + k
unfolding active
below zero k mask j h = absurd (among_nil j h)
below (suc n) k mask j h = go (below n (suc k) mask j) h
  where
    go : (Among j (active n (suc k) mask) → j < n + suc k) → Among j (active (suc n) k mask) → j < suc n + k
    go f =
        cases (λ (ks : List ℕ). Among j ks → j < suc n + k) (bit k mask)
        (λ _ h. ⊎_elim (λ e. omega (arith, e)) (λ r. omega (arith, f r)) (among_cons j k _ h)) (λ _ h. omega (arith, f h))

pub channels_below : (mask j : ℕ) → Among j (active_from 0 mask) → j < 20
channels_below mask j h = below 20 0 mask j h

-- those of a mask cut to twenty bits
pub cut_channels : (mask waiting : ℕ) → waiting ≡ mask % 2 ^ 20 → active_from 0 waiting ≡ active_from 0 mask
cut_channels mask waiting e = ap (active_from 0) e ∙ active_low 20 0 20 mask (omega arith)
