-- The numbers of answers: no refusal has the number 0, what `?` hands on keeps its number, and answers with the same numbers are the same.
use Prim.Native.Nat.{ℕ}
use mathlib.Core.Path.{◌≡◌, refl, sym, ap, ◌∙◌}
use mathlib.Core.Bool.{false, cond, true≢false}
use borrow.Author.Tests.{eq-eqb}
use lib.Dec.{eqb}
use Rattle.std.specs.Prelude.{Result, Ok, Err, IsErrAnd}
use Rattle.rules.specs.Types.{Refusal, Fate, none, was_stored, lost_to_full, lost_to_closed, Done, Frequencies, Answer}
use Rattle.rules.specs.declared.Refusal.TheVariants.{FittedCode, ShortMemory, Unsound, NoRegister, ReadOnly, Calibrating, NothingEnds}
use Rattle.rules.specs.declared.Refusal.TheVariants.{DivisorZero, ExternalClock, RangeCode, FilterCode, KitCode, Firmware}
use Rattle.rules.specs.Clocks.{fate_number}
use Rattle.rules.specs.Rates.{Figures}
use Rattle.rules.specs.Numbered.{refusal_number, outcome_number, answer_of, figures_of}

pub not_done : (why : Refusal) → eqb (refusal_number why) 0 ≡ false
unfolding refusal_number
not_done FittedCode = refl
not_done ShortMemory = refl
not_done Unsound = refl
not_done NoRegister = refl
not_done ReadOnly = refl
not_done Calibrating = refl
not_done NothingEnds = refl
not_done DivisorZero = refl
not_done ExternalClock = refl
not_done RangeCode = refl
not_done FilterCode = refl
not_done KitCode = refl
not_done Firmware = refl

-- where a first test refuses, `?` hands its number on, whatever the later tests would say
pub handed_on : {A : Type 0} (r : Result A Refusal) (why : Refusal) (n : ℕ) → IsErrAnd r (λ y. y ≡ why)
    → outcome_number r ≡ cond (eqb (refusal_number why) 0) n (refusal_number why)
handed_on (Ok x) why n h = absurd h
handed_on (Err y) why n h = ap refusal_number h ∙ rw (not_done why)

-- ---- Answers with the same numbers

refusal_of : ℕ → Refusal
refusal_of n =
    cond (eqb n 1) FittedCode (cond (eqb n 2) ShortMemory (cond (eqb n 3) Unsound (cond (eqb n 4) NoRegister (cond (eqb n 5) ReadOnly
    (cond (eqb n 6) Calibrating (cond (eqb n 7) NothingEnds (cond (eqb n 8) DivisorZero (cond (eqb n 9) ExternalClock
    (cond (eqb n 14) RangeCode (cond (eqb n 15) FilterCode (cond (eqb n 16) KitCode Firmware)))))))))))

its_refusal : (why : Refusal) → refusal_of (refusal_number why) ≡ why
unfolding refusal_number refusal_of
its_refusal FittedCode = refl
its_refusal ShortMemory = refl
its_refusal Unsound = refl
its_refusal NoRegister = refl
its_refusal ReadOnly = refl
its_refusal Calibrating = refl
its_refusal NothingEnds = refl
its_refusal DivisorZero = refl
its_refusal ExternalClock = refl
its_refusal RangeCode = refl
its_refusal FilterCode = refl
its_refusal KitCode = refl
its_refusal Firmware = refl

pub same_refusal : (why why' : Refusal) → refusal_number why ≡ refusal_number why' → why ≡ why'
same_refusal why why' h = sym (its_refusal why) ∙ ap refusal_of h ∙ its_refusal why'

fate_of : ℕ → Fate
fate_of n = cond (eqb n 0) none (cond (eqb n 1) was_stored (cond (eqb n 2) lost_to_full lost_to_closed))

its_fate : (f : Fate) → fate_of (fate_number f) ≡ f
unfolding fate_of
its_fate none = refl
its_fate was_stored = refl
its_fate lost_to_full = refl
its_fate lost_to_closed = refl

pub same_fate : (f f' : Fate) → fate_number f ≡ fate_number f' → f ≡ f'
same_fate f f' h = sym (its_fate f) ∙ ap fate_of h ∙ its_fate f'

refused_is_not_done : (why : Refusal) → refusal_number why ≡ 0 → ⊥
refused_is_not_done why h = true≢false (sym (eq-eqb _ _ h) ∙ not_done why)

pub same_answer : (r r' : Result Done Refusal) → answer_of r ≡ answer_of r' → r ≡ r'
same_answer (Ok d) (Ok d') h =
    let fates = same_fate d.fate d'.fate (ap (λ (a : Answer). a.fate) h) in
    λ i. Ok (record { register = (h i).register; moved = (h i).moved; fate = fates i })
same_answer (Ok d) (Err why) h = absurd (refused_is_not_done why (sym (ap (λ (a : Answer). a.refusal) h)))
same_answer (Err why) (Ok d) h = absurd (refused_is_not_done why (ap (λ (a : Answer). a.refusal) h))
same_answer (Err why) (Err why') h = ap Err (same_refusal why why' (ap (λ (a : Answer). a.refusal) h))

pub same_frequencies : (r r' : Result Frequencies Refusal) → figures_of r ≡ figures_of r' → r ≡ r'
same_frequencies (Ok f) (Ok f') h = λ i. Ok (record { reference = (h i).reference; rate = (h i).rate })
same_frequencies (Ok f) (Err why) h = absurd (refused_is_not_done why (sym (ap (λ (a : Figures). a.refusal) h)))
same_frequencies (Err why) (Ok f) h = absurd (refused_is_not_done why (ap (λ (a : Figures). a.refusal) h))
same_frequencies (Err why) (Err why') h = ap Err (same_refusal why why' (ap (λ (a : Figures). a.refusal) h))
