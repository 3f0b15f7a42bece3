-- Lists of numbers, place by place: what `map` makes of a list, and the end-of-frame mark on the last of one.
use Prim.Native.Nat.{ℕ, zero, suc, ◌+◌, ◌%◌, ◌<◌}
use mathlib.Core.Path.{◌≡◌, refl, ap}
use mathlib.Core.List.{List, [], ◌∷◌, map}
use native.Mathlib.Nat.{le_of_suc-le-suc, not-suc-le-zero}
use native.Mathlib.Omega.{arith}
use lib.ListN.{length, get_or}
use Rattle.cut_rules.specs.Cut.{eof_on_last}
use Rattle.cut_rules.specs.Laws.{Eof-told}

pub map_at {ℓ} : {B : Type ℓ} (f : ℕ → B) (xs : List ℕ) (i : ℕ) (d : B) → i < length xs → get_or (map f xs) i d ≡ f (get_or xs i 0)
map_at f [] i d l = absurd (not-suc-le-zero l)
map_at f (x ∷ xs) zero d l = refl
map_at f (x ∷ xs) (suc i) d l = map_at f xs i d (le_of_suc-le-suc l)

-- ---- The mark

eof_length : (vs : List ℕ) → length (eof_on_last vs) ≡ length vs
unfolding eof_on_last
eof_length [] = refl
eof_length (v ∷ []) = refl
eof_length (v ∷ w ∷ vs) = ap suc (eof_length (w ∷ vs))

eof_last : (vs : List ℕ) (i : ℕ) → suc i ≡ length vs → get_or (eof_on_last vs) i 0 ≡ get_or vs i 0 + 0x10000
unfolding eof_on_last
eof_last [] i e = absurd (omega (arith, e))
eof_last (v ∷ []) zero e = refl
eof_last (v ∷ []) (suc i) e = absurd (omega (arith, e))
eof_last (v ∷ w ∷ vs) zero e = absurd (omega (arith, e))
eof_last (v ∷ w ∷ vs) (suc i) e = eof_last (w ∷ vs) i (omega (arith, e))

eof_others : (vs : List ℕ) (i : ℕ) → suc i < length vs → get_or (eof_on_last vs) i 0 ≡ get_or vs i 0
unfolding eof_on_last
eof_others [] i l = absurd (omega (arith, l))
eof_others (v ∷ []) i l = absurd (omega (arith, l))
eof_others (v ∷ w ∷ vs) zero l = refl
eof_others (v ∷ w ∷ vs) (suc i) l = eof_others (w ∷ vs) i (omega (arith, l))

pub eof_told : Eof-told
eof_told vs = record { long = eof_length vs; last = eof_last vs; others = eof_others vs }

-- the mark is above the data
pub eof_data : (vs : List ℕ) (i : ℕ) → get_or (eof_on_last vs) i 0 % 0x10000 ≡ get_or vs i 0 % 0x10000
unfolding eof_on_last
eof_data [] i = refl
eof_data (v ∷ []) zero = omega arith
eof_data (v ∷ []) (suc i) = refl
eof_data (v ∷ w ∷ vs) zero = refl
eof_data (v ∷ w ∷ vs) (suc i) = eof_data (w ∷ vs) i
