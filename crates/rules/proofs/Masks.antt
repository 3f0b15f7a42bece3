-- Bits of a number, one by one: its lowest; and it is below 2^n exactly when it has no bit from n up.
use Prim.Native.Nat.{ℕ, zero, suc, ◌+◌, ◌*◌, ◌/◌, ◌%◌, ◌^◌, ◌≤◌, ◌<◌}
use mathlib.Core.Path.{◌≡◌, sym, ap, ◌∙◌}
use mathlib.Core.Logic.{◌≢◌}
use mathlib.Core.Bool.{true, false}
use native.Mathlib.Nat.{div-one, div-eq_of_lt, div-lt_iff_lt-mul, pow-suc, one-mul}
use native.Mathlib.Numerals.{one-add}
use native.Mathlib.Omega.{arith}
use borrow.Author.Tests.{eqb-false}
use lib.Dec.{eqb}
use lib.Pow.{pow_pos, pow_mono, shr-shr}
use Rattle.rules.specs.Bits.{bit}
use Rattle.rules.proofs.Choice.{not_true}

-- bit n + k of v is bit k of v over 2^n
pub bit_shift : (n k v : ℕ) → bit (n + k) v ≡ bit k (v / 2 ^ n)
bit_shift n k v = ap (λ (x : ℕ). eqb (x % 2) 1) (sym (shr-shr v n k))

pub bit_below : (n k v : ℕ) → v < 2 ^ n → n ≤ k → bit k v ≡ false
bit_below n k v h l =
    let p : 2 ^ n ≤ 2 ^ k = pow_mono l in
    let z : v / 2 ^ k ≡ 0 = div-eq_of_lt (omega arith) in
    ap (λ (x : ℕ). eqb (x % 2) 1) z

-- ---- The lowest bit, and the others as bits of the half

pub bit_even : (v : ℕ) → bit 0 v ≡ false → v % 2 ≡ 0
bit_even v z =
    let e : v % 2 ≢ 1 = eqb-false (v % 2) 1 (ap (λ (x : ℕ). eqb (x % 2) 1) (sym (div-one v)) ∙ z) in
    omega arith

pub bit_suc : (k v : ℕ) → bit (suc k) v ≡ bit k (v / 2)
bit_suc k v = ap (λ (x : ℕ). bit x v) (sym (one-add k)) ∙ bit_shift 1 k v

-- ---- A number without bits is 0

pub below_pow : (n : ℕ) → n < 2 ^ n
below_pow zero = omega arith
below_pow (suc n) = omega (arith, below_pow n, pow-suc 2 n)

bits_none : (n v : ℕ) → v < 2 ^ n → ((k : ℕ) → bit k v ≡ false) → v ≡ 0
bits_none zero v h f = omega arith
bits_none (suc n) v h f =
    let half : v / 2 ≡ 0 = bits_none n (v / 2) (omega (arith, pow-suc 2 n)) (λ k. sym (bit_suc k v) ∙ f (suc k)) in
    omega (arith, bit_even v (f 0))

-- ---- No bit from n up

pub below_bits : (n v : ℕ) → ((k : ℕ) → bit k v ≡ true → k < n) → v < 2 ^ n
below_bits n v f =
    let q = v / 2 ^ n in
    let z : q ≡ 0 = bits_none q q (below_pow q) (λ k. not_true (bit k q) (λ h. above k h)) in
    let l : v < 1 * 2 ^ n = (div-lt_iff_lt-mul (pow_pos n)).0 (omega arith) in
    rw one-mul at l
  where
    above : (k : ℕ) → bit k (v / 2 ^ n) ≡ true → ⊥
    above k h = let l : n + k < n = f (n + k) (bit_shift n k v ∙ h) in omega arith
