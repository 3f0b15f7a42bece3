-- A text opens with a byte order mark where std finds one, and nowhere else.
use Prim.Native.Nat.{ℕ}
use mathlib.Core.Path.{◌≡◌, refl, sym, ap, ◌∙◌}
use mathlib.Core.Bool.{Bool, true, false, ◌&&◌}
use mathlib.Core.List.{List, [], ◌∷◌}
use lib.Dec.{eqb}
use borrow.Author.Tests.{eqb-true, eqb-false, ne_eqb, eq-eqb}
use Rattle.std.specs.List.{starts_with}
use Rattle.std.proofs.Math.Bool.{and-false}
use Rattle.rules.proofs.Choice.{cond_true, cond_false}
use Rattle.hex_rules.specs.Hex.{char_at, opening_of}

turned : (n a : ℕ) → eqb n a ≡ eqb a n
turned n a = go (eqb a n) refl
  where
    go : (t : Bool) → eqb a n ≡ t → eqb n a ≡ eqb a n
    go true e = eq-eqb n a (sym (eqb-true a n e)) ∙ sym e
    go false e = ne_eqb n a (λ p. eqb-false a n e (sym p)) ∙ sym e

mark_opens : (t : List ℕ)
    → starts_with eqb t (239 ∷ 187 ∷ 191 ∷ [])
    ≡ ((eqb (char_at t 0) 239 && eqb (char_at t 1) 187) && eqb (char_at t 2) 191)
mark_opens [] = refl
mark_opens (a ∷ []) = and-false (eqb 239 a) ∙ sym (ap (λ (x : Bool). x && false) (and-false (eqb a 239)))
mark_opens (a ∷ b ∷ []) =
    ap (λ (x : Bool). eqb 239 a && x) (and-false (eqb 187 b)) ∙ and-false (eqb 239 a) ∙ sym (and-false (eqb a 239 && eqb b 187))
mark_opens (a ∷ b ∷ c ∷ t) = rw (turned 239 a, turned 187 b, turned 191 c) (go (eqb a 239) (eqb b 187) (eqb c 191))
  where
    go : (x y z : Bool) → x && (y && (z && true)) ≡ (x && y) && z
    go true true true = refl
    go true true false = refl
    go true false z = refl
    go false y z = refl

pub opened : (t : List ℕ) → starts_with eqb t (239 ∷ 187 ∷ 191 ∷ []) ≡ true → 3 ≡ opening_of t
unfolding opening_of
opened t h = sym (cond_true _ 3 0 (sym (mark_opens t) ∙ h))

pub unopened : (t : List ℕ) → starts_with eqb t (239 ∷ 187 ∷ 191 ∷ []) ≡ false → 0 ≡ opening_of t
unfolding opening_of
unopened t h = sym (cond_false _ 3 0 (sym (mark_opens t) ∙ h))
