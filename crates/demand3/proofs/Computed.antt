-- Demand 3's words by computation alone.
use Prim.Native.Nat.{ℕ, ◌%◌}
use mathlib.Core.Path.{◌≡◌, refl}
use mathlib.Core.Logic.{◌≢◌}
use mathlib.Core.Bool.{false}
use native.Mathlib.Omega.{arith}
use borrow.Author.Tests.{eqb-false}
use lib.Dec.{eqb}
use Rattle.rules.specs.declared.Event.{Event}
use Rattle.rules.specs.declared.Event.TheVariants.{PowerUp as power_up, Write as write, Read as read, Signal as signal}
use Rattle.rules.proofs.Open.{rules_open}
use Rattle.demand3.specs.Demand3.{NeverLower, same, deeper, larger, NothingLost, loses_nothing, NoQuarters, none, next}
use Rattle.demand3.specs.Examples.{Demand3-computed}

abbrev fitted_in : Event → ℕ
fitted_in (power_up x) = x.fitted
fitted_in (write o v) = 0
fitted_in (read o) = 0
fitted_in (signal x) = 0

abbrev code_in : Event → ℕ
code_in (power_up x) = 0
code_in (write o v) = v % 16
code_in (read o) = 0
code_in (signal x) = 0

not_shallower : {e e' : Event} → NeverLower e e' → fitted_in e ≡ 3 → fitted_in e' ≡ 1 → ⊥
not_shallower (same e) q r = omega (arith, q, r)
not_shallower (deeper x d h) q r = omega (arith, h, q, r)
not_shallower (larger v v' h l) q r = omega (arith, q)

not_smaller : {e e' : Event} → NeverLower e e' → code_in e ≡ 1 → code_in e' ≡ 0 → ⊥
not_smaller (same e) q r = omega (arith, q, r)
not_smaller (deeper x d h) q r = omega (arith, q)
not_smaller (larger v v' h l) q r = omega (arith, l, q, r)

-- a fate that is another number, and then the rest
no_loss_lem : {m n : ℕ} {B : Type 0} → eqb m n ≡ false → B → (m ≢ n) × B
no_loss_lem h rest = (eqb-false _ _ h, rest)

pub demand3_computed : Demand3-computed
unfolding NothingLost loses_nothing NoQuarters rules_open
demand3_computed =
    record {
      shallower = λ w. not_shallower w refl refl;
      smaller = λ w. not_smaller w refl refl;
      passes = refl;
      agree = record {
        lossless = no_loss_lem refl (no_loss_lem refl (no_loss_lem refl (no_loss_lem refl (no_loss_lem refl (no_loss_lem refl (no_loss_lem refl (no_loss_lem refl
            (no_loss_lem refl tt))))))));
        alike = record { levels = refl; values = refl; burst = refl; circular = refl; load = refl; ready = refl };
        core = refl;
        answers = next refl refl refl (next refl refl refl (next refl refl refl (next refl refl refl (next refl refl refl
            (next refl refl refl (next refl refl refl (next refl refl refl (next refl refl refl none))))))));
        request = λ _. refl;
      };
      low = λ q. q.1.1.0.low refl;
      high = λ q. q.1.1.0.high refl;
    }
