-- What the code does with one value is `deal_one`; and the loop of `deal` over the channels: what holds at each turn, and that a
-- turn keeps it.
use Prim.Native.Nat.{ℕ, zero, suc, ◌/◌, ◌%◌, ◌^◌, ◌<◌}
use mathlib.Core.Path.{◌≡◌, refl, sym, ap, subst, ◌∙◌}
use mathlib.Core.Bool.{Bool, ◌||◌}
use mathlib.Core.List.{List, [], ◌∷◌}
use native.Mathlib.Nat.{mod-lt}
use native.Mathlib.Omega.{arith}
use borrow.Author.Tests.{eq-eqb, ne_eqb}
use lib.Bits.{bit_or, or_shr, or_mod}
use lib.Dec.{eqb}
use lib.ListN.{length, set}
use Rattle.rules.specs.Bits.{bit}
use Rattle.rules.specs.Clocks.{coded}
use Rattle.rules.specs.declared.Ring.{Ring}
use Rattle.rules.proofs.Choice.{cond_true, cond_false}
use Rattle.laws.specs.Moved.{Among}
use Rattle.laws.proofs.Among.{among_head, among_tail}
use Rattle.moves.specs.Ready.{Ready}
use Rattle.moves.specs.Deal.{Dealing, dealing, front, place_passed, place_now, deal_one, deal_all}
use Rattle.moves.proofs.Rings.{ready_good, left_placed}

-- ---- One value

-- a bit of two numbers together is set where that of one is
bit_or_lem : (k x y : ℕ) → bit k (bit_or x y) ≡ bit k x || bit k y
bit_or_lem k x y =
    ap (λ (n : ℕ). eqb (n % 2) 1) (or_shr x y k)
    ∙ ap (λ (n : ℕ). eqb n 1) (or_mod (x / 2 ^ k) (y / 2 ^ k) 1)
    ∙ digit (x / 2 ^ k % 2) (y / 2 ^ k % 2) (mod-lt (x / 2 ^ k) (omega arith)) (mod-lt (y / 2 ^ k) (omega arith))
  where
    digit : (a b : ℕ) → a < 2 → b < 2 → eqb (bit_or a b) 1 ≡ eqb a 1 || eqb b 1
    digit zero b h l = refl
    digit (suc zero) zero h l = refl
    digit (suc zero) (suc zero) h l = refl
    digit (suc zero) (suc (suc b)) h l = absurd (omega arith)
    digit (suc (suc a)) b h l = absurd (omega arith)

-- what the code makes of a value that passed, its parts equal to those of the rules; the marks of those before it say whether one
-- carried EOF
pub one_dealt : (binary again : Bool) (d k : ℕ) (levels : List ℕ) (ring : Ring) (marks : ℕ) (m : List ℕ) (v level : ℕ) (ring' : Ring) (m' : List ℕ)
    → let s = dealing levels ring (bit 16 marks) m in
    level ≡ coded binary v → v ≡ front s → ring' ≡ (place_passed again d (place_now s)).ring → m' ≡ (place_passed again d (place_now s)).memory
    → dealing (set levels k level) ring' (bit 16 (bit_or marks v)) m' ≡ deal_one binary again d k s
unfolding deal_one
one_dealt binary again d k levels ring marks m v level ring' m' l e r n =
    let same = l ∙ ap (coded binary) e in
    let ended = bit_or_lem 16 marks v ∙ ap (λ (x : ℕ). bit 16 marks || bit 16 x) e in
    λ i. dealing (set levels k (same i)) (r i) (ended i) (n i)

-- ---- The loop

-- The channels ks are still to be served: to deal to them from here is to deal to all, ks₀, from s₀.
pub record Inv (ks₀ : List ℕ) (binary again : Bool) (d : ℕ) (s₀ s : Dealing) (ks : List ℕ) : Type 0 where
  pub below : (k : ℕ) → Among k ks → k < 20
  pub ready : 0 < length ks → Ready d s.ring s.memory
  pub whole : deal_all binary again d ks s ≡ deal_all binary again d ks₀ s₀

pub inv_start : {ks : List ℕ} {binary again : Bool} {d : ℕ} {s : Dealing} → ((k : ℕ) → Among k ks → k < 20)
    → (0 < length ks → Ready d s.ring s.memory) → Inv ks binary again d s s ks
inv_start h r = record { below = h; ready = r; whole = refl }

-- nothing is dealt where nothing is stored
dealt_empty : (binary again : Bool) (d : ℕ) (ks : List ℕ) (s : Dealing) → s.ring.count ≡ 0 → deal_all binary again d ks s ≡ s
unfolding deal_all
dealt_empty binary again d [] s h = refl
dealt_empty binary again d (k ∷ ks) s h = cond_true _ _ _ (eq-eqb s.ring.count 0 h)

module _ {ks₀ : List ℕ} {binary again : Bool} {d : ℕ} {s₀ s : Dealing} {k : ℕ} {ks : List ℕ} (v : Inv ks₀ binary again d s₀ s (k ∷ ks)) where
  pub inv_below : k < 20
  inv_below = v.below k (among_head k ks)

  pub inv_ready : Ready d s.ring s.memory
  inv_ready = v.ready (omega arith)

  inv_dealt : zero < s.ring.count → Inv ks₀ binary again d s₀ (deal_one binary again d k s) ks
  unfolding deal_one deal_all
  inv_dealt n =
      let m = left_placed again d (place_now s) (ready_good inv_ready) n in
      let on = cond_false _ _ _ (ne_eqb s.ring.count 0 (λ e. omega (arith, e, n))) in
      record {
        below = λ j h. v.below j (among_tail j k ks h);
        ready = λ _. record { first = m.good.first_lt; count = m.good.count_le; enough = m.good.enough; small = inv_ready.small };
        whole = sym on ∙ v.whole;
      }

  pub inv_turn : {s' : Dealing} → zero < s.ring.count → s' ≡ deal_one binary again d k s → Inv ks₀ binary again d s₀ s' ks
  inv_turn n e = subst (λ (x : Dealing). Inv ks₀ binary again d s₀ x ks) (sym e) (inv_dealt n)

-- all are dealt, or none is left
module _ {ks₀ : List ℕ} {binary again : Bool} {d : ℕ} {s₀ s : Dealing} {ks : List ℕ} (v : Inv ks₀ binary again d s₀ s ks) where
  pub inv_served : ks ≡ [] → s ≡ deal_all binary again d ks₀ s₀
  unfolding deal_all
  inv_served e = rw e at v.whole

  pub inv_empty : s.ring.count ≡ 0 → s ≡ deal_all binary again d ks₀ s₀
  inv_empty e = sym (dealt_empty binary again d ks s e) ∙ v.whole
