-- The ring of values in memory, read as a list (specs/Lists.antt).
use Prim.Native.Nat.{ℕ, zero, suc, ◌+◌, ◌-◌, ◌%◌, ◌≤◌, ◌<◌}
use mathlib.Core.Path.{◌≡◌, refl, sym, ap, ap₂, ◌∙◌}
use mathlib.Core.Logic.{◌≢◌, ◌⊎◌, inl, inr}
use mathlib.Core.List.{List, [], ◌∷◌, ◌++◌, append_assoc, append-nil}
use native.Mathlib.Nat.{mod-lt, mod-eq_of_lt, mod-add-mod, mod-mod, not-suc-le-zero, add-mod_right, add-zero, le_of_suc-le-suc}
use native.Mathlib.Decide.{dec_lt, ℕ_discrete}
use native.Mathlib.Numerals.{add-one}
use native.Mathlib.Omega.{arith}
use lib.ListN.{length, get_or, set, take, drop, length-set}
use lib.Seq.{get_or-set_same, get_or-set_other, drop-set-lt, drop-drop, drop-append-le, take-append-le}
use Rattle.rules.specs.Record.{value_span, values}
use Rattle.rules.specs.Clocks.{keep, clear, store, leave, recirculate}
use Rattle.rules.specs.Place.{Place, place_store, place_leave, place_again, times, place}
use Rattle.laws.specs.Lists.{Good, listed, on_list, StaysOrNew, Same, Placed, Place-listed}
use Rattle.rules.proofs.Steps.{length_values}

-- ---- Places modulo the depth

-- less than a lap on, (f + c) mod d is f + c or a lap less
mod_lap : {f c d : ℕ} → f < d → c < d → ((f + c) % d ≡ f + c) ⊎ ((f + c) % d + d ≡ f + c)
mod_lap {f} {c} {d} hf hc = go (dec_lt (f + c) d)
  where
    go : Dec (f + c < d) → ((f + c) % d ≡ f + c) ⊎ ((f + c) % d + d ≡ f + c)
    go (yes h) = inl (mod-eq_of_lt h)
    go (no h) =
        let e : f + c ≡ (f + c - d) + d = omega arith in
        let r : (f + c) % d ≡ f + c - d = ap (λ (x : ℕ). x % d) e ∙ add-mod_right (f + c - d) d ∙ mod-eq_of_lt (omega arith) in
        inr (omega arith)

pub mod_away : {f c d : ℕ} → f < d → suc c < d → f ≢ (f + suc c) % d
mod_away {f} {c} {d} hf hc e = go (mod_lap hf hc)
  where
    go : ((f + suc c) % d ≡ f + suc c) ⊎ ((f + suc c) % d + d ≡ f + suc c) → ⊥
    go (inl h) = omega arith
    go (inr h) = omega arith

-- nought on
pub mod_here : (f d : ℕ) → f < d → f ≡ (f + 0) % d
mod_here f d h = sym (rw add-zero (mod-eq_of_lt h))

-- one place on, and then c more, is suc c on
pub mod_shift : (f c d : ℕ) → ((f + 1) % d + c) % d ≡ (f + suc c) % d
mod_shift f c d = mod-add-mod (f + 1) d c ∙ ap (λ (x : ℕ). x % d) (omega arith)

-- ---- The list of a ring

values_store : (d f c v : ℕ) (m : List ℕ) → f < d → c < d → d ≤ length m
    → values d f (suc c) (set m ((f + c) % d) v) ≡ values d f c m ++ (v % value_span ∷ [])
unfolding values
values_store d f zero v m hf hc hm =
    let h : f < length m = omega arith in
    rw (← mod_here f d hf) (ap (λ (x : ℕ). x % value_span ∷ []) (get_or-set_same m f v 0 h))
values_store d f (suc c) v m hf hc hm =
    ap₂ {C = List ℕ} (λ x xs. x % value_span ∷ xs) (get_or-set_other m ((f + suc c) % d) f v 0 (mod_away hf hc))
    (ap (λ (p : ℕ). values d ((f + 1) % d) (suc c) (set m p v)) (sym (mod_shift f c d))
    ∙ values_store d ((f + 1) % d) c v m (mod-lt (f + 1) (omega arith)) (omega arith) hm)

-- the i-th value stands i places on from the first
pub get_d_values : (d f c i : ℕ) (m : List ℕ) → f < d → i < c → get_or (values d f c m) i 0 ≡ get_or m ((f + i) % d) 0 % value_span
unfolding values
get_d_values d f zero i m hf h = absurd (not-suc-le-zero h)
get_d_values d f (suc c) zero m hf h =
    ap (λ (x : ℕ). get_or m x 0 % value_span) (mod_here f d hf)
get_d_values d f (suc c) (suc i) m hf h =
    get_d_values d ((f + 1) % d) c i m (mod-lt (f + 1) (omega arith)) (le_of_suc-le-suc h) ∙ ap (λ (x : ℕ). get_or m x 0 % value_span) (mod_shift f i d)

-- ---- Memories that changed only where they may

same_refl : (d : ℕ) (m : List ℕ) → Same d m m
same_refl d m = record { long = refl; above = refl; written = λ i. inl refl }

same_trans : {d : ℕ} {l m n : List ℕ} → Same d l m → Same d m n → Same d l n
same_trans {d} {l} {m} {n} a b = record { long = b.long ∙ a.long; above = b.above ∙ a.above; written = λ i. go i (a.written i) (b.written i) }
  where
    go : (i : ℕ) → (get_or m i 0 ≡ get_or l i 0) ⊎ (get_or m i 0 < value_span) → (get_or n i 0 ≡ get_or m i 0) ⊎ (get_or n i 0 < value_span)
        → (get_or n i 0 ≡ get_or l i 0) ⊎ (get_or n i 0 < value_span)
    go i (inl x) (inl y) = inl (y ∙ x)
    go i (inr x) (inl y) = inr (rw y x)
    go i (inl x) (inr y) = inr y
    go i (inr x) (inr y) = inr y

written_set : (m : List ℕ) (j v : ℕ) → j < length m → v < value_span → StaysOrNew m (set m j v)
written_set m j v hj hv i = go (ℕ_discrete i j)
  where
    go : Dec (i ≡ j) → (get_or (set m j v) i 0 ≡ get_or m i 0) ⊎ (get_or (set m j v) i 0 < value_span)
    go (yes e) = inr (rw (e, get_or-set_same m j v 0 hj) hv)
    go (no n) = inl (get_or-set_other m j i v 0 n)

placed_trans : {d : ℕ} {p q r : Place} {l l' : List ℕ} → Placed d p q l → Placed d q r l' → Placed d p r l'
placed_trans a b = record { good = b.good; lists = b.lists; same = same_trans a.same b.same }

-- ---- One value

placed_store : (d v : ℕ) (p : Place) → Good d p → p.ring.count < d → v < value_span → Placed d p (place_store d v p) (listed d p ++ (v % value_span ∷ []))
placed_store d v p g h hv =
    let at : (p.ring.first + p.ring.count) % d < d = mod-lt _ (omega arith) in
    record {
      good = record { first_lt = g.first_lt; count_le = omega arith; enough = rw length-set g.enough };
      lists = rw add-one (values_store d p.ring.first p.ring.count v p.memory g.first_lt h g.enough);
      same = record {
        long = length-set p.memory _ v;
        above = drop-set-lt d p.memory _ v at;
        written = written_set p.memory _ v (omega (arith, g.enough)) hv;
      };
    }

placed_leave : (d : ℕ) (p : Place) → Good d p → zero < p.ring.count → Placed d p (place_leave d p) (drop 1 (listed d p))
unfolding values
placed_leave d p g h = go p.ring.count refl
  where
    go : (c : ℕ) → p.ring.count ≡ c → Placed d p (place_leave d p) (drop 1 (listed d p))
    go zero e = absurd (omega arith)
    go (suc c) e =
        let e' : p.ring.count - 1 ≡ c = omega arith in
        record {
          good = record { first_lt = mod-lt _ (omega arith); count_le = omega (arith, g.count_le); enough = g.enough };
          lists = rw (e', e) refl;
          same = same_refl d p.memory;
        }

take_one : (d : ℕ) (p : Place) → zero < p.ring.count → take 1 (listed d p) ≡ get_or p.memory p.ring.first 0 % value_span % value_span ∷ []
unfolding values
take_one d p h = go p.ring.count refl
  where
    go : (c : ℕ) → p.ring.count ≡ c → take 1 (listed d p) ≡ get_or p.memory p.ring.first 0 % value_span % value_span ∷ []
    go zero e = absurd (omega arith)
    go (suc c) e = rw e (ap (λ (x : ℕ). x ∷ []) (sym (mod-mod _ value_span)))

pub placed_again : (d : ℕ) (p : Place) → Good d p → zero < p.ring.count → Placed d p (place_again d p) (drop 1 (listed d p) ++ take 1 (listed d p))
placed_again d p g h =
    let a = placed_leave d p g h in
    let b = placed_store d (get_or p.memory p.ring.first 0 % value_span) (place_leave d p) a.good (omega (arith, g.count_le)) (mod-lt _ (omega arith)) in
    let t = placed_trans a b in
    record { good = t.good; lists = t.lists ∙ ap₂ {C = List ℕ} (λ x y. x ++ y) a.lists (sym (take_one d p h)); same = t.same }

-- ---- k values, one after another

placed_leaves : (d k : ℕ) (p : Place) → Good d p → k ≤ p.ring.count → Placed d p (times (place_leave d) k p) (drop k (listed d p))
unfolding times
placed_leaves d zero p g h = record { good = g; lists = refl; same = same_refl d p.memory }
placed_leaves d (suc k) p g h =
    let l = listed d p in
    let a = placed_leave d p g (omega arith) in
    let b = placed_leaves d k (place_leave d p) a.good (omega arith) in
    let t = placed_trans a b in
    let e : 1 + k ≡ suc k = omega arith in
    record { good = t.good; lists = t.lists ∙ ap (drop k) a.lists ∙ drop-drop k 1 l ∙ ap (λ (n : ℕ). drop n l) e; same = t.same }

-- turning by one and then by k turns by suc k
turn_suc : (k : ℕ) (l : List ℕ) → suc k ≤ length l
    → drop k (drop 1 l ++ take 1 l) ++ take k (drop 1 l ++ take 1 l) ≡ drop (suc k) l ++ take (suc k) l
turn_suc k [] h = absurd (not-suc-le-zero h)
turn_suc k (x ∷ xs) h =
    ap₂ {C = List ℕ} (λ a b. a ++ b) (drop-append-le k xs (x ∷ []) (le_of_suc-le-suc h)) (take-append-le k xs (x ∷ []) (le_of_suc-le-suc h))
    ∙ append_assoc (drop k xs) (x ∷ []) (take k xs)

placed_turns : (d k : ℕ) (p : Place) → Good d p → k ≤ p.ring.count → Placed d p (times (place_again d) k p) (drop k (listed d p) ++ take k (listed d p))
unfolding times
placed_turns d zero p g h = record { good = g; lists = sym (append-nil (listed d p)); same = same_refl d p.memory }
placed_turns d (suc k) p g h =
    let l = listed d p in
    let a = placed_again d p g (omega arith) in
    let b = placed_turns d k (place_again d p) a.good (omega arith) in
    let t = placed_trans a b in
    record {
      good = t.good;
      lists = t.lists ∙ ap (λ (x : List ℕ). drop k x ++ take k x) a.lists ∙ turn_suc k l (rw (length_values d p.ring.first p.ring.count p.memory) h);
      same = t.same;
    }

-- ---- Any operation

pub place_listed : Place-listed
unfolding place on_list values
place_listed d keep p g h = record { good = g; lists = refl; same = same_refl d p.memory }
place_listed d clear p g h =
    record { good = record { first_lt = h; count_le = omega arith; enough = g.enough }; lists = refl; same = same_refl d p.memory }
place_listed d (store v) p g h = placed_store d v p g h.0 h.1
place_listed d (leave k) p g h = placed_leaves d k p g h
place_listed d (recirculate k) p g h = placed_turns d k p g h
