-- The rate question: its refusals, exactly, and its figures as roundings down.
use Rattle.std.specs.Prelude.{ℕ, suc, ◌+◌, ◌*◌, ◌≤◌, ◌<◌, ◌≡◌, ◌≢◌, ◌↔◌, true, false}
use Rattle.rules.specs.Types.{Board}
use Rattle.rules.specs.Rates.{rates}
use Rattle.rules.specs.Laws.Soundness.{Sound}

-- 01: "8 rate asked with divisor 0"; "9 rate asked with EXTERNAL CLOCK set"; "rate 3, 9, 8"
pub data RateGiven (b : Board) : ℕ → Type 0 where
  unsound : ¬ Sound b → RateGiven b 3
  external : Sound b → b.core.mode.external ≡ true → RateGiven b 9
  divisor_zero : Sound b → b.core.mode.external ≡ false → b.core.clock.divisor ≡ 0 → RateGiven b 8
  answered : Sound b → b.core.mode.external ≡ false → b.core.clock.divisor ≢ 0 → RateGiven b 0

abbrev pub Rate-exactly : Type 0
Rate-exactly = (b : Board) (n : ℕ) → ((rates b).refusal ≡ n) ↔ RateGiven b n

-- "the last two 0 when refused"
abbrev pub Rate-refused : Type 0
Rate-refused = (b : Board) → (rates b).refusal ≢ 0 → ((rates b).reference ≡ 0) × ((rates b).rate ≡ 0)

-- q is n over d, rounded down
pub record RoundedDown (n d q : ℕ) : Type 0 where
  pub not_more : q * d ≤ n
  pub not_less : n < suc q * d

-- "16,000,000·(511 + Nclk)/511"; "The sample rate is the exact reference (30,000,000 Hz if ALT = 0) over the divisor, rounded down once."
pub record RateFigures (b : Board) : Type 0 where
  pub fixed : b.core.clock.alt ≡ false → (rates b).reference ≡ 30000000
  pub fixed_rate : b.core.clock.alt ≡ false → RoundedDown 30000000 b.core.clock.divisor (rates b).rate
  pub adjusted : b.core.clock.alt ≡ true → RoundedDown (16000000 * (511 + b.core.clock.nclk)) 511 (rates b).reference
  pub adjusted_rate : b.core.clock.alt ≡ true
      → RoundedDown (16000000 * (511 + b.core.clock.nclk)) (511 * b.core.clock.divisor) (rates b).rate

abbrev pub Rate-figures : Type 0
Rate-figures = (b : Board) → (rates b).refusal ≡ 0 → RateFigures b
