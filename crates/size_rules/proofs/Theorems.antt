-- The theorems, case by case.
use Prim.Native.Nat.{ℕ, ◌≤◌, ◌<◌}
use mathlib.Core.Path.{◌≡◌, refl, sym, ◌∙◌, subst}
use mathlib.Core.List.{List}
use native.Mathlib.Omega.{arith}
use lib.ListN.{length, take}
use Rattle.rules.specs.Record.{start}
use Rattle.file_rules.specs.declared.Fault.{Fault}
use Rattle.file_rules.specs.declared.Fault.TheVariants.{Version, Cut, Length, Kind}
use Rattle.file_rules.specs.Item.{File}
use Rattle.file_rules.specs.File.{session, fault_number}
use Rattle.demand3.specs.Demand3.{Agree}
use Rattle.size_rules.specs.Smallest.{codes, size_refusal, size_code}
use Rattle.size_rules.specs.Theorems.{events_with, Plays, Loses, Named-plays, Lower-lose, None-plays, Higher-play}
use Rattle.size_rules.proofs.Higher.{replays_agree, higher_plays}
use Rattle.size_rules.proofs.Answered.{size_cases, not_both_ends, code_found, found_plays, lower_loses, none_found}

-- a fault's number is neither 0 nor 19
pub fault_other : (why : Fault) → (fault_number why ≡ 0 → ⊥) × (fault_number why ≡ 19 → ⊥)
unfolding fault_number
fault_other Version = (λ h. omega (arith, h), λ h. omega (arith, h))
fault_other Cut = (λ h. omega (arith, h), λ h. omega (arith, h))
fault_other Length = (λ h. omega (arith, h), λ h. omega (arith, h))
fault_other Kind = (λ h. omega (arith, h), λ h. omega (arith, h))

-- a code that is named is the one found
named_found : (s m : List ℕ) → size_refusal s m ≡ 0 → (size_code s m ≡ code_found s m) × (code_found s m < codes)
named_found s m =
    size_cases (λ r k _. r ≡ 0 → (k ≡ code_found s m) × (code_found s m < codes)) s m
    (λ why p _ h. absurd ((fault_other why).0 h))
    (λ _ l _. (refl, l))
    (λ _ _ h. absurd (omega (arith, h)))

pub named_plays : Named-plays
named_plays s m h =
    let n = named_found s m h in
    (omega (arith, n.0, n.1), subst (Plays s (length m)) (sym n.0) (found_plays s m n.1))

pub lower_lose : Lower-lose
lower_lose s m k h l = lower_loses s m k (omega (arith, l, (named_found s m h).0))

pub none_plays : None-plays
none_plays s m = (
  size_cases (λ r _ _. r ≡ 19 → ((session s).end ≡ File) × ((k : ℕ) → k ≤ 15 → Loses s (length m) k)) s m
      (λ why p _ h. absurd ((fault_other why).1 h))
      (λ _ _ h. absurd (omega (arith, h)))
      (λ e h _. (e, none_found s m h)),
  λ g.
      size_cases (λ r _ _. r ≡ 19) s m
      (λ why p e. absurd (not_both_ends _ why p g.0 e))
      (λ _ l. absurd (g.1 (code_found s m) (omega (arith, l)) m refl (found_plays s m l m refl)))
      (λ _ _. refl),
)

pub higher_play : Higher-play
higher_play s m m₁ m₂ k h above within p q =
    let n = named_found s m h in
    let named = found_plays s m n.1 m₁ p in
    let above' : code_found s m ≤ k = omega (arith, n.0, above) in (
      higher_plays (session s).events m₁ m₂ (p ∙ sym q) (code_found s m) k above' within named,
      λ j.
          subst (λ (c : ℕ). Agree (start m₁) (take j (events_with s c)) (start m₂) (take j (events_with s k))) (sym n.0)
          (replays_agree (session s).events m₁ m₂ (p ∙ sym q) (code_found s m) k above' within named j),
    )
