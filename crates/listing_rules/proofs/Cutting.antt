-- A text cut behind a character (specs/LineLaws): a piece is what ends at the first one, and a number's digits hold no space and no newline.
use Prim.Native.Nat.{ℕ, zero, suc, ◌/◌, ◌%◌, ◌<◌}
use mathlib.Core.Path.{◌≡◌, refl, sym, ap, ◌∙◌}
use mathlib.Core.Logic.{◌≢◌}
use mathlib.Core.Bool.{Bool, true, not, ◌&&◌}
use mathlib.Core.List.{List, [], ◌∷◌, ◌++◌, append-nil}
use native.Mathlib.Omega.{arith}
use borrow.Author.Tests.{eq-eqb, ne_eqb, eqb-false, not-true}
use lib.Dec.{eqb, ltb}
use Rattle.rules.proofs.Choice.{either, and_both, cond_true, cond_false}
use Rattle.listing_rules.specs.Text.{digit, capital, decimal, decimal_in, hex}
use Rattle.listing_rules.specs.LineLaws.{on_first, cut_behind}

-- ---- Pieces

pub data Without (c : ℕ) : List ℕ → Type 0 where
  none : Without c []
  also : {x : ℕ} {xs : List ℕ} → x ≢ c → Without c xs → Without c (x ∷ xs)

-- it ends in the character, and has no other
pub data OnePiece (c : ℕ) : List ℕ → Type 0 where
  end : OnePiece c (c ∷ [])
  after : {x : ℕ} {xs : List ℕ} → x ≢ c → OnePiece c xs → OnePiece c (x ∷ xs)

pub without_both : {c : ℕ} (xs ys : List ℕ) → Without c xs → Without c ys → Without c (xs ++ ys)
without_both [] ys none k = k
without_both (x ∷ xs) ys (also h hs) k = also h (without_both xs ys hs k)

-- of a text that is given it is computed
unfoldable pub lacks : ℕ → List ℕ → Bool
lacks c [] = true
lacks c (x ∷ xs) = not (eqb x c) && lacks c xs

pub without_given : (c : ℕ) (xs : List ℕ) → lacks c xs ≡ true → Without c xs
unfolding lacks
without_given c [] h = none
without_given c (x ∷ xs) h =
    let t = and_both _ _ h in
    also (eqb-false x c (not-true _ t.0)) (without_given c xs t.1)

pub piece_behind : {c : ℕ} (xs ys : List ℕ) → Without c xs → OnePiece c ys → OnePiece c (xs ++ ys)
piece_behind [] ys none k = k
piece_behind (x ∷ xs) ys (also h hs) k = after h (piece_behind xs ys hs k)

pub cut_piece : (c : ℕ) (xs ys : List ℕ) → OnePiece c xs → cut_behind c (xs ++ ys) ≡ xs ∷ cut_behind c ys
unfolding cut_behind
cut_piece c xs ys end = cond_true _ _ _ (eq-eqb c c refl)
cut_piece c xs ys (after {x = x} {xs = l} h k) = cond_false _ _ _ (ne_eqb x c h) ∙ ap (on_first x) (cut_piece c l ys k)

-- the last one
pub cut_last : (c : ℕ) (xs : List ℕ) → OnePiece c xs → cut_behind c xs ≡ xs ∷ []
unfolding cut_behind
cut_last c xs h = ap (cut_behind c) (sym (append-nil xs)) ∙ cut_piece c xs [] h

-- what ends in another character is a piece too, where the text ends
pub cut_rest : (c : ℕ) (xs : List ℕ) (x : ℕ) → Without c xs → x ≢ c → cut_behind c (xs ++ x ∷ []) ≡ (xs ++ x ∷ []) ∷ []
unfolding cut_behind
cut_rest c [] x none h = cond_false _ _ _ (ne_eqb x c h)
cut_rest c (y ∷ ys) x (also g gs) h = cond_false _ _ _ (ne_eqb y c g) ∙ ap (on_first y) (cut_rest c ys x gs h)

-- ---- Digits

module _ (c : ℕ) (low : c < 48) where
  digit_not : (d : ℕ) → digit d ≢ c
  digit_not d e = omega (arith, e)

  capital_not : (d : ℕ) → capital d ≢ c
  capital_not d = either (λ (x : ℕ). x ≢ c) (ltb d 10) (λ e. omega (arith, e)) (λ e. omega (arith, e))

  decimal_in_without : (f n : ℕ) → Without c (decimal_in f n)
  unfolding decimal_in
  decimal_in_without zero n = also (digit_not n) none
  decimal_in_without (suc f) n =
      either (Without c) (ltb n 10) (also (digit_not n) none)
      (without_both _ _ (decimal_in_without f (n / 10)) (also (digit_not (n % 10)) none))

  pub decimal_without : (n : ℕ) → Without c (decimal n)
  decimal_without n = decimal_in_without 9 n

  pub hex_without : (k n : ℕ) → Without c (hex k n)
  unfolding hex
  hex_without zero n = none
  hex_without (suc k) n = without_both _ _ (hex_without k (n / 16)) (also (capital_not (n % 16)) none)
