-- The one that is picked from many is among them, and none lies beyond it: for the lowest and for the highest by one proof.
use Prim.Native.Nat.{ℕ, ◌≤◌}
use native.Mathlib.Nat.{le_refl, le_trans}
use native.Mathlib.Omega.{arith}
use mathlib.Core.Path.{◌≡◌, refl, sym, ap, ◌∙◌, subst}
use mathlib.Core.Logic.{◌⊎◌, inl, inr}
use mathlib.Core.Bool.{Bool, true, false, cond}
use mathlib.Core.List.{List, [], ◌∷◌}
use borrow.Author.Tests.{ltb-true, ltb-false}
use lib.Dec.{ltb}
use lib.Ieee.{Float, le}
use Rattle.volt_rules.specs.Volts.{zero_volts}
use Rattle.volt_rules.specs.Extremes.{lesser, greater, picked, last_of}
use Rattle.volt_rules.specs.Table.{extremes_of}
use Rattle.volt_rules.specs.Laws.{OneOf, Bounds}
use Rattle.volt_rules.proofs.Lists.{Each, each_parted, each_also}
use Rattle.volt_rules.proofs.Floats.{Height, lt_heights, le_heights}

-- volts that have a height
abbrev pub High : Float → Type 0
High x = (h : ℕ) × Height x h

-- what is picked of vs, where R h g says that the height h does not lie behind g
module _ (pick : Float → Float → Float) (R : ℕ → ℕ → Type 0) where
  abbrev pub Within : ℕ → Float → Type 0
  Within h x = (g : ℕ) × Height x g × R h g

  pub record Best (vs : List Float) : Type 0 where
    pub height : ℕ
    pub high : Height (picked pick vs) height
    pub reached : OneOf (picked pick vs) vs
    pub all : Each (Within height) vs

  -- of two, one is picked, and the other does not lie beyond it
  abbrev pub Picks : Type 0
  Picks = (x y : Float) (h g : ℕ) → Height x h → Height y g → ((pick x y ≡ x) × R h g) ⊎ ((pick x y ≡ y) × R g h)

  best : ((h : ℕ) → R h h) → ((h g f : ℕ) → R h g → R g f → R h f) → Picks → (v : Float) (vs : List Float) → Each High (v ∷ vs) → Best (v ∷ vs)
  unfolding picked
  best same on picks v [] k = record { height = k.0.0; high = k.0.1; reached = ([], [], refl); all = ((k.0.0, k.0.1, same _), tt) }
  best same on picks v (w ∷ vs) k = go (best same on picks w vs k.1)
    where
      go : Best (w ∷ vs) → Best (v ∷ w ∷ vs)
      go b = part (picks _ _ _ _ b.high k.0.1)
        where
          part : ((pick (picked pick (w ∷ vs)) v ≡ picked pick (w ∷ vs)) × R b.height k.0.0)
              ⊎ ((pick (picked pick (w ∷ vs)) v ≡ v) × R k.0.0 b.height)
              → Best (v ∷ w ∷ vs)
          part (inl (e, r)) =
              record {
                height = b.height;
                high = subst (λ (x : Float). Height x b.height) (sym e) b.high;
                reached = subst (λ (x : Float). OneOf x (v ∷ w ∷ vs)) (sym e)
                    (v ∷ b.reached.0, b.reached.1, ap (λ (xs : List Float). v ∷ xs) b.reached.2);
                all = ((k.0.0, k.0.1, r), b.all);
              }
          part (inr (e, r)) =
              record {
                height = k.0.0;
                high = subst (λ (x : Float). Height x k.0.0) (sym e) k.0.1;
                reached = subst (λ (x : Float). OneOf x (v ∷ w ∷ vs)) (sym e) ([], w ∷ vs, refl);
                all = (
                  (k.0.0, k.0.1, same _),
                  each_also (Within b.height) (Within k.0.0) (λ x z. (z.0, z.1, on _ _ _ r z.2)) (w ∷ vs) b.all,
                );
              }

-- ---- The lowest and the highest

abbrev pub AtMost : ℕ → ℕ → Type 0
AtMost h g = h ≤ g

abbrev pub AtLeast : ℕ → ℕ → Type 0
AtLeast h g = g ≤ h

lesser_picks : Picks lesser AtMost
lesser_picks x y h g p q = go (ltb g h) refl
  where
    go : (t : Bool) → ltb g h ≡ t → ((lesser x y ≡ x) × (h ≤ g)) ⊎ ((lesser x y ≡ y) × (g ≤ h))
    go true e = inr (ap (λ (t : Bool). cond t y x) (lt_heights q p ∙ e), omega (arith, ltb-true g h e))
    go false e = inl (ap (λ (t : Bool). cond t y x) (lt_heights q p ∙ e), ltb-false g h e)

greater_picks : Picks greater AtLeast
greater_picks x y h g p q = go (ltb h g) refl
  where
    go : (t : Bool) → ltb h g ≡ t → ((greater x y ≡ x) × (g ≤ h)) ⊎ ((greater x y ≡ y) × (h ≤ g))
    go true e = inr (ap (λ (t : Bool). cond t y x) (lt_heights p q ∙ e), omega (arith, ltb-true h g e))
    go false e = inl (ap (λ (t : Bool). cond t y x) (lt_heights p q ∙ e), ltb-false h g e)

pub lowest_best : (v : Float) (vs : List Float) → Each High (v ∷ vs) → Best lesser AtMost (v ∷ vs)
lowest_best = best lesser AtMost (λ h. le_refl h) (λ h g f p q. le_trans p q) lesser_picks

pub highest_best : (v : Float) (vs : List Float) → Each High (v ∷ vs) → Best greater AtLeast (v ∷ vs)
highest_best = best greater AtLeast (λ h. le_refl h) (λ h g f p q. le_trans q p) greater_picks

-- ---- All three

pub bounds : (v : Float) (vs : List Float) → Each High (v ∷ vs) → OneOf zero_volts (v ∷ vs) → Bounds (v ∷ vs) (extremes_of (v ∷ vs))
unfolding last_of
bounds v vs k z =
    let low = lowest_best v vs k in
    let high = highest_best v vs k in
    let inside : (x : Float) → OneOf x (v ∷ vs) → (le (picked lesser (v ∷ vs)) x ≡ true) × (le x (picked greater (v ∷ vs)) ≡ true) = λ x o.
    let p = each_parted _ (v ∷ vs) o.0 o.1 x o.2 low.all in
    let q = each_parted _ (v ∷ vs) o.0 o.1 x o.2 high.all in
    (le_heights low.high p.1 p.2, le_heights q.1 high.high q.2) in
    record {
      lowest_reached = low.reached;
      highest_reached = high.reached;
      inside = inside;
      last = (vs, refl);
      ordered = inside v ([], vs, refl);
      midrange = inside zero_volts z;
    }
