-- Where a number stands in a list, and lists that ascend.
use Prim.Native.Nat.{ℕ, zero, suc, ◌<◌, suc-le-suc}
use mathlib.Core.Path.{◌≡◌, refl}
use mathlib.Core.Logic.{◌⊎◌, inl, inr}
use mathlib.Core.List.{List, [], ◌∷◌}
use native.Mathlib.Nat.{le_of_suc-le-suc, not-suc-le-zero, zero-lt-suc}
use native.Mathlib.Omega.{arith}
use lib.ListN.{length, get_or}
use Rattle.laws.specs.Moved.{Among}

pub among_nil : (k : ℕ) → ¬ Among k []
among_nil k h = not-suc-le-zero h.inside

pub among_at : (i : ℕ) (ks : List ℕ) → i < length ks → Among (get_or ks i 0) ks
among_at i ks h = record { index = i; inside = h; there = refl }

pub among_head : (k : ℕ) (ks : List ℕ) → Among k (k ∷ ks)
among_head k ks = among_at 0 (k ∷ ks) (zero-lt-suc (length ks))

pub among_tail : (j k : ℕ) (ks : List ℕ) → Among j ks → Among j (k ∷ ks)
among_tail j k ks h = record { index = suc h.index; inside = suc-le-suc h.inside; there = h.there }

pub among_cons : (j k : ℕ) (ks : List ℕ) → Among j (k ∷ ks) → (k ≡ j) ⊎ Among j ks
among_cons j k ks h = go h.index h.inside h.there
  where
    go : (i : ℕ) → i < length (k ∷ ks) → get_or (k ∷ ks) i 0 ≡ j → (k ≡ j) ⊎ Among j ks
    go zero l e = inl e
    go (suc i) l e = inr (record { index = i; inside = le_of_suc-le-suc l; there = e })

-- ---- Ascending

abbrev pub Ascending : List ℕ → Type 0
Ascending ks = (i j : ℕ) → i < j → j < length ks → get_or ks i 0 < get_or ks j 0

pub ascending_nil : Ascending []
ascending_nil i j l h = absurd (not-suc-le-zero h)

pub ascending_cons : (k : ℕ) (ks : List ℕ) → ((j : ℕ) → Among j ks → k < j) → Ascending ks → Ascending (k ∷ ks)
ascending_cons k ks f g i zero l h = absurd (not-suc-le-zero l)
ascending_cons k ks f g zero (suc j) l h = f _ (among_at j ks (le_of_suc-le-suc h))
ascending_cons k ks f g (suc i) (suc j) l h = g i j (le_of_suc-le-suc l) (le_of_suc-le-suc h)

pub ascending_tail : (k : ℕ) (ks : List ℕ) → Ascending (k ∷ ks) → Ascending ks
ascending_tail k ks f i j l h = f (suc i) (suc j) (suc-le-suc l) (suc-le-suc h)

-- the first stands only once
pub ascending_head : (k : ℕ) (ks : List ℕ) → Ascending (k ∷ ks) → ¬ Among k ks
ascending_head k ks f h =
    let l : k < get_or ks h.index 0 = f 0 (suc h.index) (omega arith) (suc-le-suc h.inside) in
    omega (arith, h.there)
