-- Channels in order: behind a channel of the list, the list goes on with the others.
use Prim.Native.Nat.{ℕ, zero, suc, ◌+◌, ◌-◌, ◌≤◌}
use mathlib.Core.Path.{◌≡◌, sym, ap, ◌∙◌}
use mathlib.Core.List.{List, ◌∷◌}
use native.Mathlib.Omega.{arith}
use lib.ListN.{length, drop}
use Rattle.rules.specs.Bits.{bit, active, active_from, head_or}
use Rattle.rules.proofs.Choice.{either}

-- of two lists that are equal, the first and the others
same_head : {x y : ℕ} {xs ys : List ℕ} → x ∷ xs ≡ y ∷ ys → x ≡ y
unfolding head_or
same_head e = ap (head_or 0) e

same_tail : {x y : ℕ} {xs ys : List ℕ} → x ∷ xs ≡ y ∷ ys → xs ≡ ys
same_tail e = ap (drop 1) e

active_next : (m n mask k : ℕ) (ks : List ℕ) → active m n mask ≡ k ∷ ks → active (m + n - suc k) (suc k) mask ≡ ks
unfolding active
active_next zero n mask k ks e = absurd (let z : 0 ≡ suc (length ks) = ap length e in omega (arith, z))
active_next (suc m) n mask k ks e = go (active_next m (suc n) mask k ks) e
  where
    Rest : Type 0
    Rest = active (suc m + n - suc k) (suc k) mask ≡ ks

    here : n ∷ active m (suc n) mask ≡ k ∷ ks → Rest
    here e =
        let h = same_head e in
        let z : suc m + n - suc k ≡ m = omega (arith, h) in
        (λ i. active (z i) (suc (sym h i)) mask) ∙ same_tail e

    go : (active m (suc n) mask ≡ k ∷ ks → active (m + suc n - suc k) (suc k) mask ≡ ks) → active (suc m) n mask ≡ k ∷ ks → Rest
    go later =
        let z : suc m + n - suc k ≡ m + suc n - suc k = omega arith in
        either (λ (l : List ℕ). l ≡ k ∷ ks → Rest) (bit n mask) here (λ e. ap (λ (x : ℕ). active x (suc k) mask) z ∙ later e)

pub next_from : (n mask k : ℕ) (ks : List ℕ) → n ≤ 20 → active_from n mask ≡ k ∷ ks → active_from (suc k) mask ≡ ks
next_from n mask k ks l e =
    let z : 20 - suc k ≡ 20 - n + n - suc k = omega arith in
    ap (λ (m : ℕ). active m (suc k) mask) z ∙ active_next (20 - n) n mask k ks e
