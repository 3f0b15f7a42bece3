-- The mask of one channel: that channel is the only active one.
use Prim.Native.Nat.{ℕ, zero, suc, ◌+◌, ◌-◌, ◌*◌, ◌/◌, ◌%◌, ◌^◌, ◌≤◌, ◌<◌}
use mathlib.Core.Path.{◌≡◌, refl, sym, ap, ◌∙◌}
use mathlib.Core.Bool.{true, false}
use mathlib.Core.List.{[], ◌∷◌}
use native.Mathlib.Nat.{div-eq_of_lt, div_self, mul-div_cancel_left, mul-mod_left, pow-suc}
use native.Mathlib.Decide.{ℕ_discrete}
use native.Mathlib.Omega.{arith}
use borrow.Author.Tests.{eq-eqb, ne_eqb}
use lib.Pow.{pow_pos, pow-lt, pow-add}
use Rattle.rules.specs.Bits.{bit, active}
use Rattle.rules.proofs.Choice.{cond_true, cond_false}

-- ---- Its bits

own_bit : (k : ℕ) → bit k (2 ^ k) ≡ true
own_bit k = eq-eqb (2 ^ k / 2 ^ k % 2) 1 (ap (λ (x : ℕ). x % 2) (div_self (pow_pos k)))

bit_above : (j k : ℕ) → k < j → bit j (2 ^ k) ≡ false
bit_above j k h =
    let z : 2 ^ k / 2 ^ j % 2 ≡ 0 = ap (λ (x : ℕ). x % 2) (div-eq_of_lt (pow-lt h)) in
    ne_eqb (2 ^ k / 2 ^ j % 2) 1 (λ e. absurd (omega (arith, z, e)))

bit_below : (j i : ℕ) → bit j (2 ^ (j + suc i)) ≡ false
bit_below j i =
    let half : 2 ^ (j + suc i) / 2 ^ j ≡ 2 ^ i * 2 = ap (λ (x : ℕ). x / 2 ^ j) (pow-add 2 j (suc i)) ∙ mul-div_cancel_left (2 ^ suc i) (pow_pos j) ∙ pow-suc 2 i in
    let z : 2 ^ (j + suc i) / 2 ^ j % 2 ≡ 0 = ap (λ (x : ℕ). x % 2) half ∙ mul-mod_left (2 ^ i) 2 in
    ne_eqb (2 ^ (j + suc i) / 2 ^ j % 2) 1 (λ e. absurd (omega (arith, z, e)))

-- ---- Its channels

none_above : (n j k : ℕ) → k < j → active n j (2 ^ k) ≡ []
unfolding active
none_above zero j k h = refl
none_above (suc n) j k h = cond_false _ _ _ (bit_above j k h) ∙ none_above n (suc j) k (omega arith)

pub only_one : (n j k : ℕ) → j ≤ k → k < n + j → active n j (2 ^ k) ≡ k ∷ []
unfolding active
only_one zero j k a b = absurd (omega arith)
only_one (suc n) j k a b = go (ℕ_discrete j k) (λ l. only_one n (suc j) k l (omega arith))
  where
    go : Dec (j ≡ k) → (j < k → active n (suc j) (2 ^ k) ≡ k ∷ []) → active (suc n) j (2 ^ k) ≡ k ∷ []
    go (yes e) f = cond_true _ _ _ (ap (λ (x : ℕ). bit x (2 ^ k)) e ∙ own_bit k) ∙ (λ i. e i ∷ none_above n (suc j) k (omega arith) i)
    go (no d) f =
        let e : j + suc (k - j - 1) ≡ k = omega arith in
        cond_false _ _ _ (ap (λ (x : ℕ). bit j (2 ^ x)) (sym e) ∙ bit_below j (k - j - 1)) ∙ f (omega arith)
