-- A list of bits and the number that it reads: bit by bit, and field by field.
--   bit_number      bit k of what is read is entry k of the list
--   number_field    a field of n bits, and then the rest
use Prim.Native.Nat.{ℕ, zero, suc, ◌+◌, ◌*◌, ◌/◌, ◌%◌, ◌^◌, ◌≤◌, ◌<◌}
use mathlib.Core.Path.{◌≡◌, refl, sym, ap, ◌∙◌}
use mathlib.Core.Bool.{Bool, true, false}
use mathlib.Core.List.{List, [], ◌∷◌, ◌++◌}
use native.Mathlib.Nat.{mod-one, div-one, pow-suc, not-suc-le-zero, le_of_suc-le-suc}
use native.Mathlib.Numerals.{add-one}
use native.Mathlib.Omega.{arith}
use borrow.Author.Tests.{eq-eqb, ne_eqb}
use lib.Dec.{eqb}
use lib.ListN.{length, get_or}
use lib.Pow.{mod-pow-add}
use Rattle.rules.specs.Bits.{bit, bits_of, flag, number}
use Rattle.rules.proofs.Masks.{bit_shift, bit_below, bit_suc}

-- ---- A bit as a number

pub flag_le : (b : Bool) → flag b ≤ 1
unfolding flag
flag_le true = omega arith
flag_le false = omega arith

flag_eqb : (r : ℕ) → r < 2 → flag (eqb r 1) ≡ r
unfolding flag
flag_eqb zero h = refl
flag_eqb (suc zero) h = refl
flag_eqb (suc (suc r)) h = absurd (omega arith)

pub flag_bit : (k v : ℕ) → flag (bit k v) ≡ v / 2 ^ k % 2
flag_bit k v = flag_eqb (v / 2 ^ k % 2) (omega arith)

-- ---- Bit by bit

bit_head : (b : Bool) (n : ℕ) → bit 0 (flag b + 2 * n) ≡ b
unfolding flag
bit_head true n = eq-eqb ((1 + 2 * n) / 1 % 2) 1 (omega arith)
bit_head false n = ne_eqb ((0 + 2 * n) / 1 % 2) 1 (omega arith)

bit_tail : (k : ℕ) (b : Bool) (n : ℕ) → bit (suc k) (flag b + 2 * n) ≡ bit k n
bit_tail k b n =
    let e : (flag b + 2 * n) / 2 ≡ n = omega (arith, flag_le b) in
    bit_suc k (flag b + 2 * n) ∙ ap (bit k) e

pub bit_number : (bs : List Bool) (k : ℕ) → bit k (number bs) ≡ get_or bs k false
unfolding number
bit_number [] k = bit_below 0 k 0 (omega arith) (omega arith)
bit_number (b ∷ bs) zero = bit_head b (number bs)
bit_number (b ∷ bs) (suc k) = bit_tail k b (number bs) ∙ bit_number bs k

-- ---- The bits of a number

pub length_bits_of : (n v : ℕ) → length (bits_of n v) ≡ n
unfolding bits_of
length_bits_of zero v = refl
length_bits_of (suc n) v = ap suc (length_bits_of n (v / 2))

pub get_d_bits_of : (n v k : ℕ) → k < n → get_or (bits_of n v) k false ≡ bit k v
unfolding bits_of
get_d_bits_of zero v k h = absurd (not-suc-le-zero h)
get_d_bits_of (suc n) v zero h = refl
get_d_bits_of (suc n) v (suc k) h = get_d_bits_of n (v / 2) k (le_of_suc-le-suc h) ∙ sym (bit_suc k v)

pub number_bits_of : (n v : ℕ) → number (bits_of n v) ≡ v % 2 ^ n
unfolding bits_of number
number_bits_of zero v = sym (mod-one v)
number_bits_of (suc n) v =
    let low : flag (bit 0 v) ≡ v % 2 = flag_bit 0 v ∙ ap (λ (x : ℕ). x % 2) (div-one v) in
    let high : v % 2 ^ (n + 1) ≡ (v / 2 % 2 ^ n) * 2 + v % 2 = mod-pow-add v n 1 in
    rw (low, number_bits_of n (v / 2), ← (add-one n), high) (omega arith)

-- the bits below n are those of the remainder by 2^n
pub bit_mod : (n k v : ℕ) → k < n → bit k (v % 2 ^ n) ≡ bit k v
bit_mod n k v h = ap (bit k) (sym (number_bits_of n v)) ∙ bit_number (bits_of n v) k ∙ get_d_bits_of n v k h

-- a field that holds the n lowest bits of v
pub get_d_low : (n k v : ℕ) → k < n → get_or (bits_of n (v % 2 ^ n)) k false ≡ bit k v
get_d_low n k v h = get_d_bits_of n (v % 2 ^ n) k h ∙ bit_mod n k v h

-- a field that holds the n bits of v from j on
pub get_d_part : (n j k v : ℕ) → k < n → get_or (bits_of n (v / 2 ^ j % 2 ^ n)) k false ≡ bit (j + k) v
get_d_part n j k v h = get_d_low n k (v / 2 ^ j) h ∙ sym (bit_shift j k v)

-- ---- Lists one after another

pub number_append : (xs ys : List Bool) → number (xs ++ ys) ≡ number xs + 2 ^ length xs * number ys
unfolding number
number_append [] ys = omega arith
number_append (x ∷ xs) ys = rw (number_append xs ys, pow-suc 2 (length xs)) (omega arith)

-- a field of n bits, and then the rest
pub number_field : (n v : ℕ) (bs : List Bool) → number (bits_of n v ++ bs) ≡ v % 2 ^ n + 2 ^ n * number bs
number_field n v bs = rw (number_append (bits_of n v) bs, number_bits_of n v, length_bits_of n v)
