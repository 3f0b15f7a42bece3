-- The loop over the codes: those below k lose, and the memory is as their replays left it.
use Prim.Native.Nat.{ℕ, suc, ◌+◌, ◌-◌, ◌≤◌, ◌<◌}
use mathlib.Core.Path.{◌≡◌, refl, sym, ap, subst, ◌∙◌}
use mathlib.Core.Bool.{Bool, true, false, cond}
use mathlib.Core.List.{List}
use native.Mathlib.Omega.{arith}
use borrow.Author.Tests.{lt-ltb, le-ltb}
use lib.Dec.{ltb}
use Rattle.std.specs.Prelude.{Some, None}
use lib.ListN.{length}
use Rattle.rules.specs.declared.Event.{Event}
use Rattle.rules.specs.Record.{start}
use Rattle.rules.specs.Session.{after}
use Rattle.rules.proofs.Choice.{cond_true, cond_false}
use Rattle.file_rules.specs.File.{session}
use Rattle.size_rules.specs.Coded.{sized_all}
use Rattle.demand3.specs.Demand3.{loses_nothing}
use Rattle.size_rules.specs.Smallest.{replays, plays_in_turn, lowest_from, codes, lowest, replayed}
use Rattle.sizes.specs.Replaying.{ReplayTold, found_code, LowestTold}

-- it stands before the code k with this memory; m is the memory at the start
pub record Trying (s m memory : List ℕ) (k : ℕ) : Type 0 where
  pub within : k ≤ codes
  pub long : length memory ≡ length m
  pub replayed_so : memory ≡ replays (session s).events m k
  -- the search from here on is the whole search
  pub rest : lowest_from (plays_in_turn (session s).events m) (codes - k) k ≡ lowest (session s).events m

pub trying_start : (s m : List ℕ) → Trying s m m 0
unfolding replays lowest
trying_start s m = record { within = omega arith; long = refl; replayed_so = refl; rest = refl }

module _ {s m memory : List ℕ} {k : ℕ} (t : Trying s m memory k) where
  es : List Event
  es = (session s).events

  -- what the replay tells of its code
  told : (r : Bool) (memory' : List ℕ) → ReplayTold s memory k r memory' → (r ≡ plays_in_turn es m k) × (memory' ≡ replays es m (suc k))
  unfolding es plays_in_turn replays
  told r memory' p = (
    p.whole ∙ ap (λ (x : List ℕ). loses_nothing (start x) (sized_all k es)) t.replayed_so,
    p.memory ∙ ap (λ (x : List ℕ). (after (start x) (sized_all k es)).memory) t.replayed_so,
  )

  -- one more code of the search
  one_more : k < codes → cond (plays_in_turn es m k) k (lowest_from (plays_in_turn es m) (codes - suc k) (suc k)) ≡ lowest es m
  unfolding es lowest_from
  one_more l =
      let z : codes - k ≡ suc (codes - suc k) = omega (arith, l) in
      sym (ap (λ (n : ℕ). lowest_from (plays_in_turn (session s).events m) n k) z) ∙ t.rest

  pub trying_on : (r : Bool) (memory' : List ℕ) → k < codes → ReplayTold s memory k r memory' → r ≡ false → length memory' ≡ length memory
      → Trying s m memory' (k + 1)
  unfolding es
  trying_on r memory' l p h g =
      let q = told r memory' p in
      let z : k + 1 ≡ suc k = omega arith in
      subst (Trying s m memory') (sym z) (record {
        within = omega (arith, l);
        long = g ∙ t.long;
        replayed_so = q.1;
        rest = sym (cond_false _ _ _ (sym q.0 ∙ h)) ∙ one_more l;
      })

  pub trying_found : (r : Bool) (memory' : List ℕ) → k < codes → ReplayTold s memory k r memory' → r ≡ true → LowestTold s m (Some k) memory'
  unfolding es
  trying_found r memory' l p h =
      let q = told r memory' p in
      let e : k ≡ lowest es m = sym (cond_true _ _ _ (sym q.0 ∙ h)) ∙ one_more l in
      record {
        code = sym (cond_true (ltb k codes) _ _ (lt-ltb k codes l)) ∙ ap found_code e;
        memory = q.1 ∙ ap (replays es m) (sym (cond_true (ltb k codes) _ _ (lt-ltb k codes l)) ∙ ap replayed e);
      }

  pub trying_none : codes ≤ k → LowestTold s m None memory
  unfolding es lowest_from
  trying_none h =
      let z : codes - k ≡ 0 = omega (arith, h) in
      let w : codes ≡ k = omega (arith, h, t.within) in
      let e : k ≡ lowest es m = sym (ap (λ (n : ℕ). lowest_from (plays_in_turn (session s).events m) n k) z) ∙ t.rest in
      record {
        code = sym (cond_false (ltb k codes) _ _ (le-ltb k codes h)) ∙ ap found_code e;
        memory = t.replayed_so ∙ ap (replays es m) (sym w ∙ sym (cond_false (ltb k codes) _ _ (le-ltb k codes h)) ∙ ap replayed e);
      }
