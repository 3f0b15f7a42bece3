-- What k values that leave and are stored again change in the sample memory.
--   onward d p i   the entry i places on from where the next value is stored
use Prim.Native.Nat.{ℕ, zero, suc, ◌+◌, ◌-◌, ◌%◌, ◌≤◌, ◌<◌}
use mathlib.Core.Path.{◌≡◌, refl, sym, ap, ◌∙◌}
use mathlib.Core.Logic.{◌≢◌}
use mathlib.Core.List.{List}
use native.Mathlib.Nat.{mod-lt, mod-add-mod, add-zero, not-suc-le-zero}
use native.Mathlib.Omega.{arith}
use lib.ListN.{length, get_or, take, drop, get_or-append, length-drop}
use lib.Seq.{get_or-set_same, get_or-set_other, get_or-drop}
use Rattle.rules.specs.Record.{value_span}
use Rattle.rules.specs.Place.{Place, place_again, times}
use Rattle.rules.proofs.Steps.{length_values}
use Rattle.laws.specs.Lists.{Good, listed}
use Rattle.laws.proofs.Places.{mod_here, mod_away, mod_shift, get_d_values, placed_again}

abbrev pub onward : ℕ → Place → ℕ → ℕ
onward d p i = (p.ring.first + p.ring.count + i) % d

-- ---- Places

-- after one value, i on from the next place is what was suc i on from it
onward_suc : (d : ℕ) (p : Place) (i : ℕ) → zero < p.ring.count → onward d (place_again d p) i ≡ onward d p (suc i)
onward_suc d p i h = ap (λ (x : ℕ). x % d) (omega arith) ∙ mod_shift p.ring.first (p.ring.count + i) d ∙ ap (λ (x : ℕ). x % d) (omega arith)

-- the value goes where the next one is stored
onward_zero : (d f c : ℕ) → zero < c → ((f + 1) % d + (c - 1)) % d ≡ (f + c + 0) % d
onward_zero d f c h = mod_shift f (c - 1) d ∙ ap (λ (x : ℕ). x % d) (omega arith)

-- less than a lap on is another place
onward_apart : (d : ℕ) (p : Place) (i : ℕ) → suc i < d → onward d p 0 ≢ onward d p (suc i)
onward_apart d p i h e =
    let x : ℕ = p.ring.first + p.ring.count in
    mod_away {f = x % d} {c = i} (mod-lt x (omega arith)) h (ap (λ (y : ℕ). y % d) (sym (add-zero x)) ∙ e ∙ sym (mod-add-mod x d (suc i)))

-- ---- One value

again_there : (d : ℕ) (p : Place) → Good d p → zero < p.ring.count
    → get_or (place_again d p).memory (onward d p 0) 0 ≡ get_or (listed d p) 0 0
again_there d p g h =
    let f : ℕ = p.ring.first in
    let c : ℕ = p.ring.count in
    let m : List ℕ = p.memory in
    let below : ((f + 1) % d + (c - 1)) % d < d = mod-lt _ (omega (arith, g.first_lt)) in
    ap (λ (x : ℕ). get_or (place_again d p).memory x 0) (sym (onward_zero d f c h))
    ∙ get_or-set_same m _ _ 0 (omega (arith, below, g.enough))
    ∙ ap (λ (x : ℕ). get_or m x 0 % value_span) (mod_here f d g.first_lt)
    ∙ sym (get_d_values d f c 0 m g.first_lt h)

again_others : (d : ℕ) (p : Place) (j : ℕ) → zero < p.ring.count → j ≢ onward d p 0 → get_or (place_again d p).memory j 0 ≡ get_or p.memory j 0
again_others d p j h n = get_or-set_other p.memory _ j _ 0 (λ e. n (e ∙ onward_zero d p.ring.first p.ring.count h))

again_lists : (d : ℕ) (p : Place) (i : ℕ) → Good d p → suc i < p.ring.count
    → get_or (listed d (place_again d p)) i 0 ≡ get_or (listed d p) (suc i) 0
again_lists d p i g h =
    let l : List ℕ = listed d p in
    let long : length l ≡ p.ring.count = length_values d p.ring.first p.ring.count p.memory in
    ap (λ (x : List ℕ). get_or x i 0) (placed_again d p g (omega arith)).lists
    ∙ get_or-append (drop 1 l) (take 1 l) 0 i (rw length-drop (omega arith))
    ∙ get_or-drop 1 l i 0
    ∙ ap (λ (x : ℕ). get_or l x 0) (omega arith)

-- ---- k values, one after another

pub turns_others : (d k : ℕ) (p : Place) (j : ℕ) → k ≤ p.ring.count
    → ((i : ℕ) → i < k → j ≢ onward d p i)
    → get_or (times (place_again d) k p).memory j 0 ≡ get_or p.memory j 0
unfolding times
turns_others d zero p j h n = refl
turns_others d (suc k) p j h n =
    turns_others d k (place_again d p) j (omega arith) (λ i l e. n (suc i) (omega arith) (e ∙ onward_suc d p i (omega arith)))
    ∙ again_others d p j (omega arith) (n 0 (omega arith))

pub turns_again : (d k : ℕ) (p : Place) (i : ℕ) → Good d p → k ≤ p.ring.count → i < k
    → get_or (times (place_again d) k p).memory (onward d p i) 0 ≡ get_or (listed d p) i 0
unfolding times
turns_again d zero p i g h l = absurd (not-suc-le-zero l)
turns_again d (suc k) p zero g h l =
    turns_others d k (place_again d p) (onward d p 0) (omega arith)
    (λ i m e. onward_apart d p i (omega (arith, g.count_le)) (e ∙ onward_suc d p i (omega arith)))
    ∙ again_there d p g (omega arith)
turns_again d (suc k) p (suc i) g h l =
    ap (λ (x : ℕ). get_or (times (place_again d) k (place_again d p)).memory x 0) (sym (onward_suc d p i (omega arith)))
    ∙ turns_again d k (place_again d p) i (placed_again d p g (omega arith)).good (omega arith) (omega arith)
    ∙ again_lists d p i g (omega arith)
