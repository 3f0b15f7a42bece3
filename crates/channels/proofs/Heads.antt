-- The first of a list of channels, with 20 or another number where there is none.
use Prim.Native.Nat.{ℕ, zero, suc, ◌+◌, ◌-◌, ◌≤◌, ◌<◌}
use mathlib.Core.Path.{◌≡◌, refl, ◌∙◌}
use mathlib.Core.List.{List, [], ◌∷◌, ◌++◌}
use native.Mathlib.Omega.{arith}
use Rattle.std.specs.Prelude.{Option, Some, None, MatchOption}
use Rattle.std.specs.Option.{unwrap_or}
use Rattle.rules.specs.Bits.{bit, active, active_from, head_or}
use Rattle.rules.proofs.Choice.{either}

-- a first below 20 is there, and so the same for any other number
pub head_there : (d : ℕ) (xs : List ℕ) → head_or 20 xs < 20 → head_or 20 xs ≡ head_or d xs
unfolding head_or
head_there d [] h = absurd (omega arith)
head_there d (x ∷ xs) h = refl

pub head_append : (d : ℕ) (xs ys : List ℕ) → head_or d (xs ++ ys) ≡ head_or (head_or d ys) xs
unfolding head_or
head_append d [] ys = refl
head_append d (x ∷ xs) ys = refl

head_high : (d n k mask : ℕ) → n + k ≤ head_or d (active n k mask) → active n k mask ≡ []
unfolding head_or active
head_high d zero k mask h = refl
head_high d (suc n) k mask h =
    let r = head_high d n (suc k) mask in
    either (λ (ks : List ℕ). suc n + k ≤ head_or d ks → ks ≡ []) (bit k mask) (λ l. absurd (omega arith)) (λ l. r (omega arith)) h

-- a channel is below 20, so that 20 says that there is none
pub head_none : (k mask : ℕ) → k ≤ 20 → 20 ≤ head_or 20 (active_from k mask) → active_from k mask ≡ []
head_none k mask h l = head_high 20 (20 - k) k mask (omega arith)

-- the first where there is one, else d
pub first_or : (d : ℕ) (ks : List ℕ) (r : Option ℕ) → d < 20 → MatchOption r (ks ≡ []) (λ at. (at ≡ head_or 20 ks) × (at < 20))
    → (unwrap_or r d ≡ head_or d ks) × (unwrap_or r d < 20)
unfolding head_or
first_or d ks None l e = (rw e refl, l)
first_or d ks (Some at) l e = (e.0 ∙ head_there d ks (rw e.0 at e.1), e.1)
