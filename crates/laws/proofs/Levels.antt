-- The levels that a clock gives: each target's is the coding of its value, and the others stay.
use Prim.Native.Nat.{ℕ, zero, suc, ◌<◌}
use mathlib.Core.Path.{◌≡◌, refl, ◌∙◌}
use mathlib.Core.Logic.{◌≢◌}
use mathlib.Core.Bool.{Bool}
use mathlib.Core.List.{List, [], ◌∷◌}
use native.Mathlib.Nat.{le_of_suc-le-suc, not-suc-le-zero}
use native.Mathlib.Omega.{arith}
use lib.ListN.{length, get_or, set, length-set}
use lib.Seq.{get_or-set_same, get_or-set_other}
use Rattle.rules.specs.Clocks.{coded, laid}
use Rattle.laws.specs.Moved.{Coding, Among}
use Rattle.laws.proofs.Among.{among_head, among_tail, Ascending, ascending_tail, ascending_head}

pub coded_coding : (binary : Bool) (v : ℕ) → Coding binary v (coded binary v)
unfolding coded
coded_coding binary v =
    record {
      same = λ e. rw e;
      lower = λ e l. rw e (omega arith);
      upper = λ e l. rw e (omega arith);
    }

module _ (binary : Bool) where
  pub laid_hold : (levels ks vs : List ℕ) (k : ℕ) → ¬ Among k ks → get_or (laid binary levels ks vs) k 0 ≡ get_or levels k 0
  unfolding laid
  laid_hold levels [] vs k h = refl
  laid_hold levels (j ∷ ks) [] k h = refl
  laid_hold levels (j ∷ ks) (v ∷ vs) k h =
      let d : k ≢ j = λ e. h (rw e (among_head j ks)) in
      laid_hold (set levels j (coded binary v)) ks vs k (λ a. h (among_tail k j ks a)) ∙ get_or-set_other levels j k (coded binary v) 0 d

  pub laid_given : (levels ks vs : List ℕ) (i : ℕ) → Ascending ks → ((k : ℕ) → Among k ks → k < length levels) → i < length ks → i < length vs
      → get_or (laid binary levels ks vs) (get_or ks i 0) 0 ≡ coded binary (get_or vs i 0)
  unfolding laid
  laid_given levels [] vs i a b l l' = absurd (not-suc-le-zero l)
  laid_given levels (k ∷ ks) [] i a b l l' = absurd (not-suc-le-zero l')
  laid_given levels (k ∷ ks) (v ∷ vs) zero a b l l' =
      laid_hold (set levels k (coded binary v)) ks vs k (ascending_head k ks a) ∙ get_or-set_same levels k (coded binary v) 0 (b k (among_head k ks))
  laid_given levels (k ∷ ks) (v ∷ vs) (suc i) a b l l' =
      laid_given (set levels k (coded binary v)) ks vs i (ascending_tail k ks a)
      (λ j h. rw length-set (b j (among_tail j k ks h)))
      (le_of_suc-le-suc l)
      (le_of_suc-le-suc l')
