-- The examples of demand 3, by computation.
use Prim.Native.Nat.{ℕ}
use mathlib.Core.Path.{◌≡◌, refl, ap}
use mathlib.Core.Bool.{true≢false, false≢true}
use mathlib.Core.List.{List, [], ◌∷◌}
use native.Mathlib.Omega.{arith}
use lib.ListN.{length}
use Rattle.rules.specs.declared.Event.{Event}
use Rattle.demand3.specs.Demand3.{NeverLower, same, deeper, larger, AllNeverLower, none, next, PowerUpsAlike}
use Rattle.demand3.specs.Examples.{settings, first_run, second_run, first_start, second_start, Demand3-met, emptying, Request-met, shut_out, Closed-met, refusing, Refused-met, again, Alike-matters, too_small, large_enough, Loss-matters, Quarter-matters}
use Rattle.demand3.proofs.Premises.{accepted_all, lossless_all, quarters_none, tests_open}

-- ---- Pairs of events, in a row

infixr 20 ◌▸◌
◌▸◌ : {e e' : Event} {es es' : List Event} → NeverLower e e' → AllNeverLower es es' → AllNeverLower (e ∷ es) (e' ∷ es')
◌▸◌ w ws = next w ws

one : {e : Event} → NeverLower e e
one {e} = same e

pub sames : (es : List Event) → AllNeverLower es es
sames [] = none
sames (e ∷ es) = next (same e) (sames es)

-- ---- The examples

pub demand3_met : Demand3-met
unfolding tests_open
demand3_met =
    record {
      lower = deeper _ 3 (omega arith) ▸ one ▸ larger 0x21 0x2F refl (omega arith)
          ▸ one ▸ one ▸ one ▸ one ▸ one ▸ one ▸ one ▸ one ▸ one
          ▸ larger 0x20 0x21 refl (omega arith)
          ▸ one ▸ one ▸ one ▸ one ▸ one
          ▸ one ▸ larger 0x320 0x321 refl (omega arith) ▸ one ▸ one ▸ one ▸ one ▸ one ▸ one
          ▸ one
          ▸ deeper _ 3 (omega arith) ▸ larger 0x20 0x21 refl (omega arith) ▸ sames _;
      accepted = accepted_all first_start first_run refl;
      accepted' = accepted_all second_start second_run refl;
      lossless = lossless_all first_start first_run refl;
      unselected = quarters_none first_start first_run refl;
      beyond = refl;
      size = refl;
      nearly = refl;
    }

pub request_met : Request-met
unfolding tests_open
request_met =
    record {
      lower = deeper (settings 1) 3 (omega arith) ▸ sames _;
      accepted = accepted_all first_start (emptying 1) refl;
      accepted' = accepted_all second_start (emptying 3) refl;
      lossless = lossless_all first_start (emptying 1) refl;
      unselected = quarters_none first_start (emptying 1) refl;
      selected = refl;
      before = refl;
      set = refl;
      cleared = refl;
    }

pub closed_met : Closed-met
unfolding tests_open
closed_met =
    record {
      lower = deeper (settings 0) 1 (omega arith) ▸ one ▸ one ▸ one ▸ larger 0x120 0x12F refl (omega arith) ▸ one
          ▸ larger 0x30020 0x3002F refl (omega arith) ▸ sames _;
      accepted = accepted_all first_start (shut_out 0 0) refl;
      accepted' = accepted_all second_start (shut_out 1 15) refl;
      lossless = lossless_all first_start (shut_out 0 0) refl;
      fate = refl;
    }

pub refused_met : Refused-met
unfolding PowerUpsAlike tests_open
refused_met =
    record {
      lower = deeper (settings 1) 3 (omega arith) ▸ sames _;
      alike = (refl, (tt, (refl, (tt, tt))));
      lossless = lossless_all first_start (refusing 1) refl;
      refused = refl;
      values = refl;
    }

pub alike_matters : Alike-matters
unfolding tests_open
alike_matters =
    record {
      lower = one ▸ one ▸ deeper (settings 1) 9 (omega arith) ▸ none;
      lossless = lossless_all first_start (again 1) refl;
      differ = λ e. let z : ◌≡◌ {A = ℕ} 0 1 = ap length e in omega arith;
    }

pub loss_matters : Loss-matters
unfolding tests_open
loss_matters =
    record {
      lower = deeper (settings 0) 1 (omega arith) ▸ sames _;
      accepted = accepted_all first_start too_small refl;
      accepted' = accepted_all second_start large_enough refl;
      differ = λ e. let z : ◌≡◌ {A = ℕ} 8 9 = ap length e in omega arith;
    }

pub quarter_matters : Quarter-matters
unfolding tests_open
quarter_matters =
    record {
      low = record {
        lower = deeper (settings 0) 2 (omega arith) ▸ sames _;
        accepted = accepted_all _ _ refl;
        accepted' = accepted_all _ _ refl;
        lossless = lossless_all _ _ refl;
        selected = refl;
        differ = false≢true;
      };
      high = record {
        lower = deeper (settings 0) 2 (omega arith) ▸ sames _;
        accepted = accepted_all _ _ refl;
        accepted' = accepted_all _ _ refl;
        lossless = lossless_all _ _ refl;
        selected = refl;
        differ = true≢false;
      };
    }
