-- The ring of values in memory, read as a list: what is done to the places does to the list what `Op` says.
--   Good d p       a place that a sound record of depth d can have
--   listed d p     its values in order
--   on_list op l   what an operation makes of the values in order
--   Allowed        the operations that a place allows
--   Same d m m'    the memory changed only where it may
use Rattle.std.specs.Prelude.{ℕ, zero, ◌%◌, ◌≤◌, ◌<◌, ◌≡◌, ◌⊎◌, List, [], ◌∷◌, ◌++◌, length, get_or, take, drop}
use Rattle.rules.specs.Record.{value_span, values}
use Rattle.rules.specs.Clocks.{Op, keep, clear, store, leave, recirculate}
use Rattle.rules.specs.Place.{Place, place}

-- ---- Places and lists

pub record Good (d : ℕ) (p : Place) : Type 0 where
  pub first_lt : p.ring.first < d
  pub count_le : p.ring.count ≤ d
  pub enough : d ≤ length p.memory

abbrev pub listed : ℕ → Place → List ℕ
listed d p = values d p.ring.first p.ring.count p.memory

unfoldable pub on_list : Op → List ℕ → List ℕ
on_list keep l = l
on_list clear l = []
on_list (store v) l = l ++ (v % value_span ∷ [])
on_list (leave k) l = drop k l
on_list (recirculate k) l = drop k l ++ take k l

abbrev pub Allowed : ℕ → ℕ → Op → Type 0
Allowed d c keep = Unit {0}
Allowed d c clear = zero < d
Allowed d c (store v) = (c < d) × (v < value_span)
Allowed d c (leave k) = k ≤ c
Allowed d c (recirculate k) = k ≤ c

-- ---- The memory

-- each entry stays, or is anew and of 17 bits
abbrev pub StaysOrNew : List ℕ → List ℕ → Type 0
StaysOrNew m m' = (i : ℕ) → (get_or m' i 0 ≡ get_or m i 0) ⊎ (get_or m' i 0 < value_span)

pub record Same (d : ℕ) (m m' : List ℕ) : Type 0 where
  pub long : length m' ≡ length m
  pub above : drop d m' ≡ drop d m
  pub written : StaysOrNew m m'

-- ---- The law

-- the place after an operation is good, its values are the list l, and the memory changed only where it may
pub record Placed (d : ℕ) (p p' : Place) (l : List ℕ) : Type 0 where
  pub good : Good d p'
  pub lists : listed d p' ≡ l
  pub same : Same d p.memory p'.memory

abbrev pub Place-listed : Type 0
Place-listed =
    (d : ℕ) (op : Op) (p : Place)
    → Good d p
    → Allowed d p.ring.count op
    → Placed d p (place d op p) (on_list op (listed d p))
