-- The rate question (manual 3.4.3.1.2 and 3.10.1; 01, "Rate figures"). It asks a board record alone, and no memory.
use Rattle.std.specs.Prelude.{ℕ, ◌+◌, ◌*◌, ◌/◌, not, cond, [], ◌∷◌, eqb}
use Rattle.rules.specs.Types.{Board, Clock}
use Rattle.rules.specs.Record.{sound}
use Rattle.rules.specs.Refusals.{◌when◌, first_of}

-- 01: "whole hertz rounded down: 16,000,000·(511 + Nclk)/511"
unfoldable pub reference_of : ℕ → ℕ
reference_of nclk = 16000000 * (511 + nclk) / 511

-- 01: "(30,000,000 Hz if ALT = 0)"
unfoldable pub whole_reference : Clock → ℕ
whole_reference k = cond k.alt (reference_of k.nclk) 30000000

-- 01: "The sample rate is the exact reference .. over the divisor, rounded down once."
unfoldable pub sample_rate : Clock → ℕ
sample_rate k = cond k.alt (16000000 * (511 + k.nclk) / (511 * k.divisor)) (30000000 / k.divisor)

-- 01: "rate 3, 9, 8". Reading: 9 whatever ALT is (DECISIONS 35).
unfoldable pub rate_refusal : Board → ℕ
rate_refusal b =
    first_of (
    3 when not (sound b)
    ∷ 9 when b.core.mode.external
    ∷ 8 when eqb b.core.clock.divisor 0
    ∷ [])

-- 01: "A rate question answers refusal number, whole reference and rate, the last two 0 when refused."
pub record Figures : Type 0 where
  pub refusal : ℕ
  pub reference : ℕ
  pub rate : ℕ

unfoldable pub rates : Board → Figures
rates b =
    cond (eqb (rate_refusal b) 0)
    (record { refusal = 0; reference = whole_reference b.core.clock; rate = sample_rate b.core.clock })
    (record { refusal = rate_refusal b; reference = 0; rate = 0 })
