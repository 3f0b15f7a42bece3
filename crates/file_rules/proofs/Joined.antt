-- Pieces written one after the other are one piece, and a piece keeps the length of the output.
use Prim.Native.Nat.{ℕ, suc, ◌+◌, ◌≤◌}
use mathlib.Core.Path.{◌≡◌, ap, subst, ◌∙◌}
use mathlib.Core.List.{List, [], ◌∷◌, ◌++◌}
use native.Mathlib.Nat.{add-zero, add-suc, suc-add}
use native.Mathlib.Omega.{arith}
use lib.ListN.{length, set, length-append}
use lib.Seq.{sets, length-sets}
use Rattle.file_rules.specs.Pieces.{Piece}

sets_append : (l : List ℕ) (i : ℕ) (xs ys : List ℕ) → sets (sets l i xs) (i + length xs) ys ≡ sets l i (xs ++ ys)
sets_append l i [] ys = rw add-zero
sets_append l i (x ∷ xs) ys = rw (add-suc, ← suc-add) (sets_append (set l i x) (suc i) xs ys)

-- a piece, and then another
pub then : {o o1 o2 xs ys : List ℕ} {at p q : ℕ} → Piece o at xs o1 p → Piece o1 p ys o2 q → Piece o at (xs ++ ys) o2 q
then {o} {o1} {o2} {xs} {ys} {at} {p} {q} a b =
    record {
      place = omega (arith, length-append xs ys);
      text = b.text ∙ (λ i. sets (a.text i) (a.place i) ys) ∙ sets_append o at xs ys;
    }

-- a piece by another name
pub renamed : {o o1 xs ys : List ℕ} {at p : ℕ} → xs ≡ ys → Piece o at xs o1 p → Piece o at ys o1 p
renamed {o} {o1} {at = at} {p = p} e a = subst (λ (l : List ℕ). Piece o at l o1 p) e a

pub piece_length : {o o1 xs : List ℕ} {at p : ℕ} → Piece o at xs o1 p → length o1 ≡ length o
piece_length {o} {o1} {xs} {at} a = ap length a.text ∙ length-sets o at xs

-- the room that is left after a piece of at most n bytes
pub room_after : {o o1 xs : List ℕ} {at p : ℕ} (n k : ℕ) → at + (n + k) ≤ length o → Piece o at xs o1 p → length xs ≤ n → p + k ≤ length o1
room_after n k h a l = omega (arith, piece_length a)
