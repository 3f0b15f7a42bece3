-- The answers and the memory of a session file, exactly.
use Prim.Native.Nat.{ℕ, suc, ◌<◌}
use mathlib.Core.Path.{◌≡◌, refl, ap, subst}
use mathlib.Core.Bool.{Bool, true, false}
use mathlib.Core.List.{List}
use native.Mathlib.Decide.{ℕ_discrete}
use native.Mathlib.Omega.{arith}
use borrow.Author.Tests.{ltb-true, ltb-false}
use lib.Dec.{ltb}
use lib.ListN.{length}
use Rattle.file_rules.specs.File.{session, fault_number}
use Rattle.size_rules.specs.Smallest.{replays, codes, size_refusal, size_code}
use Rattle.size_rules.specs.Theorems.{Plays, Loses}
use Rattle.size_rules.specs.Laws.{SizeGiven, bad_file, no_size, smallest, Size-exactly, ReplayedInTurn, Memory-left}
use Rattle.size_rules.proofs.Answered.{size_cases, not_both_ends, one_fault, code_found, found_plays, lower_loses, none_found}
use Rattle.size_rules.proofs.Theorems.{fault_other}

-- ---- Refusals and codes

some_given : (s m : List ℕ) → SizeGiven s (length m) (size_refusal s m) (size_code s m)
some_given s m =
    size_cases (λ r k _. SizeGiven s (length m) r k) s m
    bad_file
    (λ e l. smallest (code_found s m) (omega (arith, l)) e (found_plays s m l) (lower_loses s m))
    (λ e h. no_size e (none_found s m h))

-- a code that plays, with no lower one that does, is the one found
the_found : (s m : List ℕ) (k : ℕ) → code_found s m < codes → Plays s (length m) k → ((j : ℕ) → j < k → Loses s (length m) j) → code_found s m ≡ k
the_found s m k l plays loses = go (ltb (code_found s m) k) refl (ℕ_discrete (code_found s m) k)
  where
    go : (t : Bool) → ltb (code_found s m) k ≡ t → Dec (code_found s m ≡ k) → code_found s m ≡ k
    go t h (yes q) = q
    go true h (no d) = absurd (loses (code_found s m) (ltb-true (code_found s m) k h) m refl (found_plays s m l m refl))
    go false h (no d) = absurd (lower_loses s m k (omega (arith, ltb-false (code_found s m) k h, d)) m refl (plays m refl))

is_given : (s m : List ℕ) (r k : ℕ) → SizeGiven s (length m) r k → (size_refusal s m ≡ r) × (size_code s m ≡ k)
is_given s m r k (bad_file why p h) =
    size_cases (λ r k _. (r ≡ fault_number why) × (k ≡ 0)) s m
    (λ why' p' h'. (ap fault_number (one_fault _ why' why p' p h' h), refl))
    (λ e _. absurd (not_both_ends _ why p e h))
    (λ e _. absurd (not_both_ends _ why p e h))
is_given s m r k (no_size e loses) =
    size_cases (λ r k _. (r ≡ 19) × (k ≡ 0)) s m
    (λ why p h. absurd (not_both_ends _ why p e h))
    (λ _ l. absurd (loses (code_found s m) (omega (arith, l)) m refl (found_plays s m l m refl)))
    (λ _ _. (refl, refl))
is_given s m r c (smallest k l e plays loses) =
    size_cases (λ r c _. (r ≡ 0) × (c ≡ k)) s m
    (λ why p h. absurd (not_both_ends _ why p e h))
    (λ _ f. (refl, the_found s m k f plays loses))
    (λ _ h. absurd (none_found s m h k l m refl (plays m refl)))

pub size_exactly : Size-exactly
size_exactly s m r k = (
  λ h. subst (λ (c : ℕ). SizeGiven s (length m) r c) h.1 (subst (λ (n : ℕ). SizeGiven s (length m) n (size_code s m)) h.0 (some_given s m)),
  is_given s m r k,
)

-- ---- The sample memory

replayed_in_turn : (s m : List ℕ) (n : ℕ) → ReplayedInTurn s m n (replays (session s).events m n)
unfolding replays
replayed_in_turn s m n = record { memories = replays (session s).events m; lent = refl; each = λ k l. refl; last = refl }

pub memory_left_lem : Memory-left
memory_left_lem s m =
    record {
      untouched = λ why p h.
          size_cases (λ _ _ left. left ≡ m) s m
          (λ _ _ _. refl)
          (λ e _. absurd (not_both_ends _ why p e h))
          (λ e _. absurd (not_both_ends _ why p e h));
      named =
          size_cases (λ r k left. r ≡ 0 → ReplayedInTurn s m (suc k) left) s m
          (λ why p _ h. absurd ((fault_other why).0 h))
          (λ _ _ _. replayed_in_turn s m _)
          (λ _ _ h. absurd (omega (arith, h)));
      all =
          size_cases (λ r _ left. r ≡ 19 → ReplayedInTurn s m 16 left) s m
          (λ why p _ h. absurd ((fault_other why).1 h))
          (λ _ _ h. absurd (omega (arith, h)))
          (λ _ _ _. replayed_in_turn s m _);
    }
