-- The lowest of some numbers that passes a test.
use Prim.Native.Nat.{ℕ, zero, suc, ◌+◌, ◌≤◌, ◌<◌}
use mathlib.Core.Path.{◌≡◌, ap, ◌∙◌}
use mathlib.Core.Bool.{Bool, true, false}
use native.Mathlib.Decide.{ℕ_discrete}
use native.Mathlib.Omega.{arith}
use Rattle.rules.proofs.Choice.{cases}
use Rattle.size_rules.specs.Smallest.{lowest_from}

-- r is the lowest of n numbers from k on that passes, or the number after them
pub record LowestOf (pass : ℕ → Bool) (n k r : ℕ) : Type 0 where
  pub from : k ≤ r
  pub within : r ≤ k + n
  pub passes : r < k + n → pass r ≡ true
  pub fails : (j : ℕ) → k ≤ j → j < r → pass j ≡ false

pub lowest_of_lem : (pass : ℕ → Bool) (n k : ℕ) → LowestOf pass n k (lowest_from pass n k)
unfolding lowest_from
lowest_of_lem pass zero k =
    record {
      from = omega arith;
      within = omega arith;
      passes = λ l. absurd (omega (arith, l));
      fails = λ j f l. absurd (omega (arith, f, l));
    }
lowest_of_lem pass (suc n) k =
    cases (LowestOf pass (suc n) k) (pass k)
    (λ h. record { from = omega arith; within = omega arith; passes = λ _. h; fails = λ j f l. absurd (omega (arith, f, l)) })
    (later (lowest_of_lem pass n (suc k)))
  where
    later : {r : ℕ} → LowestOf pass n (suc k) r → pass k ≡ false → LowestOf pass (suc n) k r
    later {r} t h =
        record {
          from = omega (arith, t.from);
          within = omega (arith, t.within);
          passes = λ l. t.passes (omega (arith, l));
          fails = λ j f l. go j f l (ℕ_discrete j k);
        }
      where
        go : (j : ℕ) → k ≤ j → j < r → Dec (j ≡ k) → pass j ≡ false
        go j f l (yes q) = ap pass q ∙ h
        go j f l (no d) = t.fails j (omega (arith, f, d)) l
