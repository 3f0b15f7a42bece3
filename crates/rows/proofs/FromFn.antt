-- An array made by `from_fn` has at each place what the function gives of it.
use Prim.Native.Nat.{ℕ, zero, suc, ◌+◌, ◌<◌}
use mathlib.Core.Path.{◌≡◌, sym, ap, subst, ◌∙◌}
use mathlib.Core.List.{List}
use native.Mathlib.Omega.{arith}
use lib.ListN.{get_or}
use denote.Param.Members.{Mut, Called}
use Rattle.std.specs.Array.{IsFromFnResult, IsFromFnResultFrom}

-- each call gives h of the place, and leaves the function as it was
module _ {F : Type 0} (g : Mut F (ℕ × Unit {0}) ℕ) (f : F) (h : ℕ → ℕ)
    (k : (i y : ℕ) (q : F) → Called g f (i, tt) y q → (q ≡ f) × (y ≡ h i)) where
  made_from : (p : F) → p ≡ f → (ys : List ℕ) (i n : ℕ) → IsFromFnResultFrom g p ys i n → (at j : ℕ) → at ≡ i + j → j < n → get_or ys at 0 ≡ h at
  made_from p e ys i zero a at j _ l = absurd (omega arith)
  made_from p e ys i (suc n) a at zero z l =
      let here : at ≡ i = omega arith in
      ap (λ (x : ℕ). get_or ys x 0) here ∙ a.2.1 0 ∙ (k i a.1 a.0 (subst (λ (w : F). Called g w (i, tt) a.1 a.0) e a.3)).1 ∙ ap h (sym here)
  made_from p e ys i (suc n) a at (suc j) z l =
      made_from a.0 ((k i a.1 a.0 (subst (λ (w : F). Called g w (i, tt) a.1 a.0) e a.3)).0) ys (i + 1) n a.4 at j (omega arith) (omega arith)

  pub made_at : (ys : List ℕ) (n : ℕ) → IsFromFnResult g f ys n → (i : ℕ) → i < n → get_or ys i 0 ≡ h i
  made_at ys n r i l = made_from f (λ _. f) ys 0 n r.each i i (omega arith) l
