-- Two replays of a session, the second with a code that is no lower, over two memories of one length: demand 3 of them.
use Prim.Native.Nat.{ℕ, zero, suc, ◌≤◌}
use mathlib.Core.Path.{◌≡◌, refl, sym, ap, ◌∙◌, subst}
use mathlib.Core.Bool.{true, false, cond, false≢true}
use mathlib.Core.List.{List, [], ◌∷◌}
use native.Mathlib.Nat.{le_refl}
use lib.Dec.{ltb, eqb}
use lib.ListN.{length, take}
use lib.Seq.{take_all}
use Rattle.laws.specs.Types.{Settings, Event, power_up, write, read, signal}
use Rattle.rules.specs.Record.{State, depth_of, start}
use Rattle.rules.specs.Refusals.{setting_refusal}
use Rattle.rules.specs.Step.{step}
use Rattle.rules.specs.Session.{after}
use Rattle.rules.proofs.Steps.{refusal_answered}
use Rattle.rules.proofs.Own.{power_up_own}
use Rattle.laws.proofs.Memory.{memory_kept}
use Rattle.demand3.specs.Demand3.{NothingLost, Agree, PowerUpAlike, PowerUpsAlike}
use Rattle.demand3.proofs.Lossless.{lossless_test, lossless_take}
use Rattle.demand3.proofs.Demand3.{demand3_alike}
use Rattle.size_rules.specs.Coded.{sized, sized_all}
use Rattle.size_rules.specs.Smallest.{replays, plays_in_turn}
use Rattle.size_rules.proofs.Coded.{sized_length, all_never_lower}

-- ---- Power-ups are answered alike

-- by the settings and the memory's length alone
up_answered : (s s' : State) (x : Settings) → length s.memory ≡ length s'.memory
    → (step s (power_up x)).answer.refusal ≡ (step s' (power_up x)).answer.refusal
up_answered s s' x q =
    refusal_answered s (power_up x)
    ∙ power_up_own s x
    ∙ ap (λ (n : ℕ). cond (eqb (setting_refusal x) 0) (cond (ltb n (depth_of x.fitted)) 2 0) (setting_refusal x)) q
    ∙ sym (power_up_own s' x)
    ∙ sym (refusal_answered s' (power_up x))

one_alike : (j k : ℕ) (s s' : State) (e : Event) → length s.memory ≡ length s'.memory
    → PowerUpAlike (sized j e) (step s (sized j e)) (step s' (sized k e))
unfolding sized
one_alike j k s s' (power_up x) q = up_answered s s' x q
one_alike j k s s' (write o v) q = tt
one_alike j k s s' (read o) q = tt
one_alike j k s s' (signal x) q = tt

all_alike : (j k n : ℕ) (es : List Event) (s s' : State) → length s.memory ≡ length s'.memory
    → PowerUpsAlike s (take n (sized_all j es)) s' (take n (sized_all k es))
unfolding sized_all PowerUpsAlike
all_alike j k zero es s s' q = tt
all_alike j k (suc n) [] s s' q = tt
all_alike j k (suc n) (e ∷ es) s s' q = (
  one_alike j k s s' e q,
  all_alike j k n es _ _ ((memory_kept s (sized j e)).long ∙ q ∙ sym (memory_kept s' (sized k e)).long),
)

-- ---- Demand 3 of the two replays

module _ (es : List Event) (m m' : List ℕ) (same : length m ≡ length m') (j k : ℕ) (lower : j ≤ k) (within : k ≤ 15) where
  pub replays_agree : NothingLost (start m) (sized_all j es) → (n : ℕ)
      → Agree (start m) (take n (sized_all j es)) (start m') (take n (sized_all k es))
  replays_agree h n =
      demand3_alike m m' _ _ (all_never_lower j k lower within es) n (all_alike j k n es (start m) (start m') same)
      (lossless_take n (start m) (sized_all j es) h)

  pub higher_plays : NothingLost (start m) (sized_all j es) → NothingLost (start m') (sized_all k es)
  higher_plays h =
      subst (NothingLost (start m')) (take_all (length es) (sized_all k es) (subst (λ (n : ℕ). n ≤ length es) (sym (sized_length k es)) (le_refl (length es))))
      (replays_agree h (length es)).lossless

-- ---- The turn of a code, over what the ones before left

after_long : (s : State) (es : List Event) → length (after s es).memory ≡ length s.memory
unfolding after
after_long s [] = refl
after_long s (e ∷ es) = after_long (step s e).state es ∙ (memory_kept s e).long

replays_long : (es : List Event) (m : List ℕ) (k : ℕ) → length (replays es m k) ≡ length m
unfolding replays
replays_long es m zero = refl
replays_long es m (suc k) = after_long _ _ ∙ replays_long es m k

module _ (es : List Event) (m m' : List ℕ) (k : ℕ) (same : length m' ≡ length m) (within : k ≤ 15) where
  -- as it plays there, it plays over any memory of that length
  pub turn_plays : plays_in_turn es m k ≡ true → NothingLost (start m') (sized_all k es)
  unfolding plays_in_turn
  turn_plays h = higher_plays es (replays es m k) m' (replays_long es m k ∙ sym same) k k (le_refl k) within ((lossless_test _ _).0 h)

  pub turn_loses : plays_in_turn es m k ≡ false → ¬ NothingLost (start m') (sized_all k es)
  unfolding plays_in_turn
  turn_loses h l =
      false≢true (sym h ∙ (lossless_test _ _).1 (higher_plays es m' (replays es m k) (same ∙ sym (replays_long es m k)) k k (le_refl k) within l))
