-- The chosen channels and the chosen numbers, place by place (specs/Laws, Numbers-told).
use Prim.Native.Nat.{ℕ, zero, suc, ◌+◌, ◌*◌, ◌^◌, ◌<◌, zero-le}
use mathlib.Core.Path.{◌≡◌, refl, sym, ap, subst, ◌∙◌}
use mathlib.Core.Bool.{true}
use mathlib.Core.List.{List, [], ◌∷◌, ◌++◌, map}
use native.Mathlib.Nat.{div-one, suc-mul}
use native.Mathlib.Omega.{arith}
use lib.Count.{ones}
use lib.ListN.{length, get_or, length-append, length-map, get_or-append}
use lib.Seq.{get_or-append-add}
use Rattle.rules.specs.Bits.{bit, active_from}
use Rattle.rules.proofs.Masks.{below_bits}
use Rattle.laws.specs.Moved.{ActiveAscending}
use Rattle.laws.proofs.Actives.{active_to, active_from_lem, active_ascending, active_ones}
use Rattle.cut_rules.specs.Cut.{Cut, sample, chosen, numbers_from, groups, numbers}
use Rattle.cut_rules.specs.Laws.{Grouped, GoodChoice, Numbers-told, Sixteen}
use Rattle.cut_rules.proofs.Lists.{map_at}

-- ---- The channels

-- the theorems open the definition here alone, so that a wrong one is told once
pub chosen_is : (q : Cut) → chosen q ≡ active_from 0 q.mask
unfolding chosen
chosen_is q = refl

module _ (q : Cut) (n : ℕ) (g : Grouped q n) (c : GoodChoice q n) where
  chosen_below : (k : ℕ) → bit k q.mask ≡ true → k < 20
  chosen_below k t = omega (arith, c.inside k t, g.most)

  pub mask_small : q.mask < 2 ^ 20
  mask_small = below_bits 20 q.mask chosen_below

  pub chosen_ones : length (chosen q) ≡ ones q.mask
  chosen_ones =
      let e = div-one q.mask in
      ap length (chosen_is q) ∙ active_ones 20 0 q.mask (rw e mask_small) ∙ ap ones e

  pub chosen_channels : ActiveAscending q.mask (chosen q)
  chosen_channels =
      subst (ActiveAscending q.mask) (sym (chosen_is q))
      (record {
        active = λ k. (λ h. (active_to 20 0 q.mask k h).0, λ t. active_from_lem 20 0 q.mask k zero-le (chosen_below k t) t);
        ascending = active_ascending 20 0 q.mask;
        as_many_as_ones = ap length (sym (chosen_is q)) ∙ chosen_ones;
      })

-- ---- The numbers

-- of any channels, since a lemma over those of a mask that is refused is computed twenty bits deep
module _ (q : Cut) (ks : List ℕ) where
  abbrev c : ℕ
  c = length ks

  from_long : (j n : ℕ) → length (numbers_from q ks j n) ≡ n * c
  unfolding numbers_from
  from_long j zero = omega arith
  from_long j (suc n) =
      length-append (map (sample q j) ks) (numbers_from q ks (suc j) n)
      ∙ omega (arith, length-map ks (sample q j), from_long (suc j) n, suc-mul n c)

  from_at : (a n j i : ℕ) → j < n → i < c → get_or (numbers_from q ks a n) (j * c + i) 0 ≡ sample q (a + j) (get_or ks i 0)
  unfolding numbers_from
  from_at a zero j i l k = absurd (omega arith)
  from_at a (suc n) zero i l k =
      let group : List ℕ = map (sample q a) ks in
      let e : 0 * c + i ≡ i = omega arith in
      let z : a ≡ a + 0 = omega arith in
      let inside : i < length group = omega (arith, length-map ks (sample q a)) in
      ap (λ (x : ℕ). get_or (group ++ numbers_from q ks (suc a) n) x 0) e
      ∙ get_or-append group (numbers_from q ks (suc a) n) 0 i inside
      ∙ map_at (sample q a) ks i 0 k
      ∙ ap (λ (x : ℕ). sample q x (get_or ks i 0)) z
  from_at a (suc n) (suc j) i l k =
      let group : List ℕ = map (sample q a) ks in
      let s : suc a + j ≡ a + suc j = omega arith in
      let e : suc j * c + i ≡ length group + (j * c + i) = omega (arith, length-map ks (sample q a), suc-mul j c) in
      ap (λ (x : ℕ). get_or (group ++ numbers_from q ks (suc a) n) x 0) e
      ∙ get_or-append-add group (numbers_from q ks (suc a) n) (j * c + i) 0
      ∙ from_at (suc a) n j i (omega arith) k
      ∙ ap (λ (x : ℕ). sample q x (get_or ks i 0)) s

  -- each is a number of the recording
  from_small : Sixteen q.recording → (a n i : ℕ) → get_or (numbers_from q ks a n) i 0 < 0x10000
  unfolding numbers_from sample
  from_small f a zero i = omega arith
  from_small f a (suc n) i = joined (from_small f (suc a) n) ks i
    where
      joined : ((i : ℕ) → get_or (numbers_from q ks (suc a) n) i 0 < 0x10000) → (js : List ℕ) (i : ℕ)
          → get_or (map (sample q a) js ++ numbers_from q ks (suc a) n) i 0 < 0x10000
      joined later [] i = later i
      joined later (j ∷ js) zero = f _
      joined later (j ∷ js) (suc i) = joined later js i

-- ---- Those of the chosen channels

module _ (q : Cut) where
  pub numbers_long : length (numbers q) ≡ groups q * length (chosen q)
  unfolding numbers
  numbers_long = from_long q (chosen q) q.first (groups q)

  pub numbers_at : (j i : ℕ) → j < groups q → i < length (chosen q)
      → get_or (numbers q) (j * length (chosen q) + i) 0 ≡ sample q (q.first + j) (get_or (chosen q) i 0)
  unfolding numbers
  numbers_at j i = from_at q (chosen q) q.first (groups q) j i

  pub numbers_small : Sixteen q.recording → (i : ℕ) → get_or (numbers q) i 0 < 0x10000
  unfolding numbers
  numbers_small f i = from_small q (chosen q) f q.first (groups q) i

-- where a number stands in the recording
sample_there : (q : Cut) (j k : ℕ) → sample q j k ≡ get_or q.recording (j * q.channels + k) 0
unfolding sample
sample_there q j k = refl

pub numbers_told : Numbers-told
unfolding groups
numbers_told q n g c =
    let e = chosen_ones q n g c in
    record {
      channels = chosen_channels q n g c;
      groups_cut = omega (arith, c.forward);
      long = numbers_long q ∙ ap (λ (x : ℕ). groups q * x) e;
      there = λ j i l k.
          ap (λ (x : ℕ). get_or (numbers q) (j * x + i) 0) (sym e)
          ∙ numbers_at q j i l (omega (arith, e))
          ∙ sample_there q (q.first + j) (get_or (chosen q) i 0);
    }
