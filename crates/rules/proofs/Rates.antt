-- The rate question: refused exactly as Laws/Rates says, and its figures rounded down.
use Prim.Native.Nat.{ℕ, zero, ◌+◌, ◌*◌, ◌/◌, ◌%◌, ◌<◌}
use mathlib.Core.Path.{◌≡◌, refl, sym, ◌∙◌, subst}
use mathlib.Core.Bool.{true, false, not}
use native.Mathlib.Nat.{div-add-mod', mod-lt, suc-mul}
use native.Mathlib.Omega.{arith}
use borrow.Author.Tests.{eqb-true, eqb-false, eq-eqb, ne_eqb}
use lib.Dec.{eqb}
use Rattle.rules.specs.Types.{Board}
use Rattle.rules.specs.Record.{sound}
use Rattle.rules.specs.Refusals.{first_of}
use Rattle.rules.specs.Rates.{reference_of, whole_reference, sample_rate, rate_refusal, Figures, rates}
use Rattle.rules.specs.Laws.Rates.{RateGiven, unsound, external, divisor_zero, answered, Rate-exactly, Rate-refused, RoundedDown, RateFigures, Rate-figures}
use Rattle.rules.proofs.Choice.{cases, not_true, not_both, not_not}
use Rattle.rules.proofs.Soundness.{sound_exactly}

rate_number : (b : Board) → (rates b).refusal ≡ rate_refusal b
unfolding rates
rate_number b = cases (λ (f : Figures). f.refusal ≡ rate_refusal b) (eqb (rate_refusal b) 0) (λ h. sym (eqb-true _ _ h)) (λ h. refl)

rate_given : (b : Board) → RateGiven b (rate_refusal b)
unfolding rate_refusal first_of
rate_given b =
    cases (RateGiven b) (not (sound b)) (λ h. unsound (λ k. not_both (sound b) h ((sound_exactly b).1 k))) (λ h.
    let s = (sound_exactly b).0 (not_not (sound b) h) in
    cases (RateGiven b) b.core.mode.external (external s) (λ x.
    cases (RateGiven b) (eqb b.core.clock.divisor 0) (λ d. divisor_zero s x (eqb-true _ _ d)) (λ d. answered s x (eqb-false _ _ d))))

given_rate : (b : Board) {n : ℕ} → RateGiven b n → rate_refusal b ≡ n
unfolding rate_refusal first_of
given_rate b (unsound h) = rw (not_true (sound b) (λ k. h ((sound_exactly b).0 k)))
given_rate b (external s x) = rw ((sound_exactly b).1 s, x)
given_rate b (divisor_zero s x d) = rw ((sound_exactly b).1 s, x, d)
given_rate b (answered s x d) = rw ((sound_exactly b).1 s, x, ne_eqb _ _ d)

pub rate_exactly : Rate-exactly
rate_exactly b n = (λ h. subst (RateGiven b) (sym (rate_number b) ∙ h) (rate_given b), λ g. rate_number b ∙ given_rate b g)

pub rate_refused : Rate-refused
unfolding rates
rate_refused b h =
    let z : eqb (rate_refusal b) 0 ≡ false = ne_eqb _ _ (λ e. h (rate_number b ∙ e)) in
    (rw z, rw z)

-- ---- The figures

divided : (n d : ℕ) → zero < d → RoundedDown n d (n / d)
divided n d h =
    let e : n / d * d + n % d ≡ n = div-add-mod' n d in
    let l : n % d < d = mod-lt n h in
    record { not_more = omega arith; not_less = omega (arith, suc-mul (n / d) d) }

pub rate_figures : Rate-figures
unfolding rates whole_reference sample_rate reference_of
rate_figures b h = go ((rate_exactly b 0).0 h)
  where
    z : eqb (rate_refusal b) 0 ≡ true
    z = eq-eqb _ _ (sym (rate_number b) ∙ h)

    go : RateGiven b 0 → RateFigures b
    go (answered s x d) =
        record {
          fixed = λ a. rw (z, a);
          fixed_rate = λ a. rw (z, a) (divided 30000000 b.core.clock.divisor (omega arith));
          adjusted = λ a. rw (z, a) (divided (16000000 * (511 + b.core.clock.nclk)) 511 (omega arith));
          adjusted_rate = λ a. rw (z, a) (divided (16000000 * (511 + b.core.clock.nclk)) (511 * b.core.clock.divisor) (omega arith));
        }
