-- A fact of each thing of a list, a list that is parted at one of its things, and one that is turned round.
use Prim.Native.Nat.{ℕ, zero, suc, ◌+◌}
use mathlib.Core.Path.{◌≡◌, sym, ap, ◌∙◌, subst}
use mathlib.Core.List.{List, [], ◌∷◌, ◌++◌, map, reverse_aux}
use native.Mathlib.Nat.{zero-add, suc-add, add-suc}
use native.Mathlib.Omega.{arith}
use lib.ListN.{length, get_or}

abbrev pub Each {ℓ} : {A : Type ℓ} → (A → Type 0) → List A → Type 0
Each P [] = Unit {0}
Each P (x ∷ xs) = P x × Each P xs

each_at {ℓ} : {A : Type ℓ} (P : A → Type 0) (us ws : List A) (x : A) → Each P (us ++ (x ∷ ws)) → P x
each_at P [] ws x h = h.0
each_at P (u ∷ us) ws x h = each_at P us ws x h.1

pub each_parted {ℓ} : {A : Type ℓ} (P : A → Type 0) (xs us ws : List A) (x : A) → xs ≡ us ++ (x ∷ ws) → Each P xs → P x
each_parted P xs us ws x e h = each_at P us ws x (subst (Each P) e h)

pub each_map {ℓ κ} : {A : Type ℓ} {B : Type κ} (P : A → Type 0) (Q : B → Type 0) (f : A → B) → ((x : A) → P x → Q (f x))
    → (xs : List A) → Each P xs → Each Q (map f xs)
each_map P Q f g [] h = tt
each_map P Q f g (x ∷ xs) h = (g x h.0, each_map P Q f g xs h.1)

pub each_also {ℓ} : {A : Type ℓ} (P Q : A → Type 0) → ((x : A) → P x → Q x) → (xs : List A) → Each P xs → Each Q xs
each_also P Q g [] h = tt
each_also P Q g (x ∷ xs) h = (g x h.0, each_also P Q g xs h.1)

-- ---- Turned round

past_turned {ℓ} : {A : Type ℓ} (xs ys : List A) (i : ℕ) (d : A) → get_or (reverse_aux xs ys) (length xs + i) d ≡ get_or ys i d
past_turned [] ys i d = ap (λ (j : ℕ). get_or ys j d) (zero-add i)
past_turned (x ∷ xs) ys i d =
    ap (λ (j : ℕ). get_or (reverse_aux xs (x ∷ ys)) j d) (suc-add (length xs) i ∙ sym (add-suc (length xs) i)) ∙ past_turned xs (x ∷ ys) (suc i) d

-- what stands j places from the start stands i places from the end
pub turned_at {ℓ} : {A : Type ℓ} (xs ys : List A) (i j : ℕ) (d : A) → suc (i + j) ≡ length xs → get_or (reverse_aux xs ys) i d ≡ get_or xs j d
turned_at [] ys i j d h = absurd (omega (arith, h))
turned_at (x ∷ xs) ys i zero d h =
    let e : i ≡ length xs + 0 = omega (arith, h) in
    ap (λ (k : ℕ). get_or (reverse_aux xs (x ∷ ys)) k d) e ∙ past_turned xs (x ∷ ys) 0 d
turned_at (x ∷ xs) ys i (suc j) d h = turned_at xs (x ∷ ys) i j d (omega (arith, h))
