-- The channels, one after another, each changed where it lies.
use Prim.Native.Nat.{ℕ, ◌+◌, ◌≤◌, ◌<◌}
use mathlib.Core.Path.{◌≡◌, refl, sym, ap, ◌∙◌}
use mathlib.Core.List.{List}
use native.Mathlib.Decide.{ℕ_discrete}
use native.Mathlib.Omega.{arith}
use lib.ListN.{length, get_or, set, length-set}
use lib.Seq.{get_or-set_same, get_or-set_other}
use Rattle.volt_rules.specs.declared.Extremes.{Extremes}
use Rattle.volts.specs.Watching.{no_channel}

module _ (ts : List Extremes) (now : ℕ → Extremes) where
  -- those below k are as they are to be, the others as they were
  pub record Upto (k : ℕ) (t : List Extremes) : Type 0 where
    pub long : length t ≡ 20
    pub done : (j : ℕ) → j < k → get_or t j no_channel ≡ now j
    pub left : (j : ℕ) → k ≤ j → get_or t j no_channel ≡ get_or ts j no_channel

  pub upto_start : length ts ≡ 20 → Upto 0 ts
  upto_start h = record { long = h; done = λ j l. absurd (omega (arith, l)); left = λ j l. refl }

  pub upto_next : (k : ℕ) (t : List Extremes) (y : Extremes) → k < 20 → Upto k t → y ≡ now k → Upto (k + 1) (set t k y)
  upto_next k t y l u e =
      record {
        long = length-set t k y ∙ u.long;
        done = λ j b. go j b (ℕ_discrete k j);
        left = λ j b. get_or-set_other t k j y no_channel (λ q. omega (arith, q, b)) ∙ u.left j (omega (arith, b));
      }
    where
      go : (j : ℕ) → j < k + 1 → Dec (k ≡ j) → get_or (set t k y) j no_channel ≡ now j
      go j b (yes q) =
          ap (λ (i : ℕ). get_or (set t k y) i no_channel) (sym q)
          ∙ get_or-set_same t k y no_channel (omega (arith, u.long, l))
          ∙ e
          ∙ ap now q
      go j b (no d) = get_or-set_other t k j y no_channel (λ q. d (sym q)) ∙ u.done j (omega (arith, b, d))
