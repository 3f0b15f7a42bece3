-- The tests are those of the rules' rows, and past a test what it refuses is not so.
use mathlib.Core.Path.{◌≡◌, sym, ◌∙◌}
use mathlib.Core.Logic.{◌≢◌}
use mathlib.Core.Bool.{true, false}
use native.Mathlib.Omega.{arith}
use borrow.Author.Tests.{eq-eqb, ne_eqb}
use Rattle.rules.specs.declared.Board.{Board}
use Rattle.rules.specs.Numbered.{refusal_number}
use Rattle.rules.specs.Record.{sound}
use Rattle.rules.specs.Refusals.{first_of}
use Rattle.rules.specs.Rates.{whole_reference, sample_rate, rate_refusal, rates}
use Rattle.rules.proofs.Equal.{told_true, told_false}
use Rattle.rules.proofs.Soundness.{sound_exactly}
use Rattle.rates.proofs.rate.Goals as goal

module _ (b : Board) where
  three : sound b ≡ false → rates b ≡ record { refusal = 3; reference = 0; rate = 0 }
  unfolding rates rate_refusal first_of
  three s = rw s

  nine : sound b ≡ true → b.core.mode.external ≡ true → rates b ≡ record { refusal = 9; reference = 0; rate = 0 }
  unfolding rates rate_refusal first_of
  nine s e = rw (s, e)

  eight : sound b ≡ true → b.core.mode.external ≡ false → b.core.clock.divisor ≡ 0
      → rates b ≡ record { refusal = 8; reference = 0; rate = 0 }
  unfolding rates rate_refusal first_of
  eight s e d = rw (s, e, eq-eqb b.core.clock.divisor 0 d)

  answered : sound b ≡ true → b.core.mode.external ≡ false → b.core.clock.divisor ≢ 0
      → rates b ≡ record { refusal = 0; reference = whole_reference b.core.clock; rate = sample_rate b.core.clock }
  unfolding rates rate_refusal first_of
  answered s e d = rw (s, e, ne_eqb b.core.clock.divisor 0 d)

pub returns-then-not-is_sound : goal.returns-then-not-is_sound
unfolding refusal_number
returns-then-not-is_sound c = record { told = sym (three c.args.b (told_false c.is_sound.ensures c.if-not-is_sound.true)) }

pub returns-then-external : goal.returns-then-external
unfolding refusal_number
returns-then-external c =
    record { told = sym (nine c.args.b (told_true c.is_sound.ensures c.if-not-is_sound.false) c.if-external.true) }

pub returns-then-k-eq0 : goal.returns-then-k-eq0
unfolding refusal_number
returns-then-k-eq0 c =
    record { told = sym (eight c.args.b (told_true c.is_sound.ensures c.if-not-is_sound.false) c.if-external.false c.if-k-eq0.true) }

pub whole_reference-requires : goal.whole_reference-requires
whole_reference-requires c = ((sound_exactly _).0 (told_true c.is_sound.ensures c.if-not-is_sound.false)).nclk

pub sample_rate-requires : goal.sample_rate-requires
sample_rate-requires c = (((sound_exactly _).0 (told_true c.is_sound.ensures c.if-not-is_sound.false)).nclk, omega arith)

pub returns : goal.returns
returns c =
    let b = c.args.b in
    record {
      told = (λ i. record { refusal = 0; reference = c.whole_reference.ensures i; rate = c.sample_rate.ensures i })
          ∙ sym (answered b (told_true c.is_sound.ensures c.if-not-is_sound.false) c.if-external.false c.if-k-eq0.false);
    }
