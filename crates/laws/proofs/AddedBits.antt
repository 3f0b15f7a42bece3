-- Bits of a number: its highest, and one that is added to it.
use Prim.Native.Nat.{ℕ, zero, suc, ◌+◌, ◌/◌, ◌%◌, ◌^◌, ◌≤◌, ◌<◌}
use mathlib.Core.Path.{◌≡◌, refl, sym, ap, ◌∙◌}
use mathlib.Core.Logic.{◌≢◌}
use mathlib.Core.Bool.{true, false, true≢false}
use native.Mathlib.Nat.{le_refl, le-div_iff_mul-le, div-one, one-mul}
use native.Mathlib.Decide.{dec_lt}
use native.Mathlib.Omega.{arith}
use borrow.Author.Tests.{eq-eqb}
use lib.Dec.{eqb}
use lib.Pow.{pow_pos, shr_lt}
use Rattle.rules.specs.Bits.{bit}
use Rattle.rules.proofs.Masks.{bit_below, bit_even, bit_suc}

-- ---- The highest bit

-- bit n of a number of n + 1 bits is set exactly when the number is at least 2^n
pub top_bit : (n v : ℕ) → v < 2 ^ (1 + n) → 2 ^ n ≤ v → bit n v ≡ true
top_bit n v h l =
    let q : v / 2 ^ n < 2 = shr_lt 1 n h in
    let p : 1 ≤ v / 2 ^ n = (le-div_iff_mul-le (pow_pos n)).1 (rw one-mul l) in
    eq-eqb (v / 2 ^ n % 2) 1 (omega arith)

pub bit_least : (n v : ℕ) → bit n v ≡ true → 2 ^ n ≤ v
bit_least n v t = go (dec_lt v (2 ^ n))
  where
    go : Dec (v < 2 ^ n) → 2 ^ n ≤ v
    go (yes l) = absurd (true≢false (sym t ∙ bit_below n n v l (le_refl n)))
    go (no l) = omega arith

-- ---- A bit that is added to a number without it: it is set, and the others stay

half_added : (n v : ℕ) → (v + 2 ^ suc n) / 2 ≡ v / 2 + 2 ^ n
half_added n v = omega arith

pub bit_added : (n v : ℕ) → bit n v ≡ false → bit n (v + 2 ^ n) ≡ true
bit_added zero v z = rw div-one (eq-eqb ((v + 1) % 2) 1 (omega (arith, bit_even v z)))
bit_added (suc n) v z = bit_suc n _ ∙ ap (bit n) (half_added n v) ∙ bit_added n (v / 2) (sym (bit_suc n v) ∙ z)

pub bit_others : (n k v : ℕ) → bit n v ≡ false → k ≢ n → bit k (v + 2 ^ n) ≡ bit k v
bit_others zero zero v z d = absurd (d refl)
bit_others zero (suc k) v z d =
    let e : (v + 1) / 2 ≡ v / 2 = omega (arith, bit_even v z) in
    bit_suc k _ ∙ ap (bit k) e ∙ sym (bit_suc k v)
bit_others (suc n) zero v z d =
    let e : (v + 2 ^ suc n) % 2 ≡ v % 2 = omega arith in
    simp div-one (ap (λ (x : ℕ). eqb x 1) e)
bit_others (suc n) (suc k) v z d =
    bit_suc k _ ∙ ap (bit k) (half_added n v) ∙ bit_others n k (v / 2) (sym (bit_suc n v) ∙ z) (λ e. d (ap suc e)) ∙ sym (bit_suc k v)
