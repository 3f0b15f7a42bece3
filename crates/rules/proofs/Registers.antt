-- What each bit of each register reads.
use Prim.Native.Nat.{◌^◌, ◌<◌}
use mathlib.Core.Path.{◌≡◌, refl, sym, ◌∙◌}
use mathlib.Core.Logic.{◌⊎◌, inl, inr, ◌↔◌}
use mathlib.Core.Bool.{Bool, true, false, not, ◌||◌, false≢true}
use mathlib.Core.List.{List, [], ◌∷◌, append_assoc}
use native.Mathlib.Nat.{pow-suc}
use native.Mathlib.Omega.{arith}
use borrow.Author.Tests.{ltb-true, lt-ltb, leb-true, le-leb, eqb-true, eq-eqb}
use lib.ListN.{length}
use Rattle.rules.specs.Types.{Core}
use Rattle.rules.specs.Bits.{bits_of, flag, number}
use Rattle.rules.specs.Clocks.{closed}
use Rattle.rules.specs.Registers.{control_bits, mask_bits, rate_bits, buffer_bits, option_bits, adjust_bits, registers, read_from}
use Rattle.rules.specs.Laws.Closed.{Closed}
use Rattle.rules.specs.Laws.Readings.{Control-read, Buffer-read, Fields-read}
use Rattle.rules.proofs.Choice.{or_cases, not_true, not_both}
use Rattle.rules.proofs.Readings.{flag_le, bit_number, get_d_bits_of, number_bits_of, number_field}
use Rattle.rules.proofs.States.{closed_not, burst_ready_exactly, clock_ready_exactly}

-- a list of n bits reads below 2^n
pub number_below : (bs : List Bool) → number bs < 2 ^ length bs
unfolding number
number_below [] = omega arith
number_below (b ∷ bs) = omega (arith, flag_le b, number_below bs, pow-suc 2 (length bs))

-- a bit that reads t is set exactly when what t tests holds
read_exactly {κ} : {P : Type κ} {x t : Bool} → x ≡ t → (t ≡ true) ↔ P → (x ≡ true) ↔ P
read_exactly e h = (λ k. h.0 (sym e ∙ k), λ p. e ∙ h.1 p)

or_exactly : (x y : Bool) → (x || y ≡ true) ↔ ((x ≡ true) ⊎ (y ≡ true))
or_exactly x y = (λ h. or_cases x y h inl inr, back x y)
  where
    back : (x y : Bool) → (x ≡ true) ⊎ (y ≡ true) → x || y ≡ true
    back true y h = refl
    back false y (inl h) = absurd (false≢true h)
    back false y (inr h) = h

open_exactly : (c : Core) → (not (closed c) ≡ true) ↔ (¬ Closed c)
open_exactly c = (λ h. (closed_not c).0 (not_true _ (not_both _ h)), λ h. rw ((closed_not c).1 h))

pub control_read : Control-read
unfolding registers read_from control_bits bits_of
control_read b =
    let field = get_d_bits_of 3 b.core.control.selection in
    record {
      d00 = bit_number _ 0;
      d01 = read_exactly (bit_number _ 1) (burst_ready_exactly b.core);
      d02 = bit_number _ 2;
      d03 = bit_number _ 3;
      d04 = bit_number _ 4;
      d05 = bit_number _ 5;
      d06 = bit_number _ 6;
      d07 = bit_number _ 7;
      d08 = bit_number _ 8 ∙ field 0 (omega arith);
      d09 = bit_number _ 9 ∙ field 1 (omega arith);
      d10 = bit_number _ 10 ∙ field 2 (omega arith);
      d11 = bit_number _ 11;
      d12 = bit_number _ 12;
      d13 = bit_number _ 13;
      d14 = bit_number _ 14;
      d15 = bit_number _ 15;
      d16 = number_below _;
    }

pub buffer_read : Buffer-read
unfolding registers read_from buffer_bits bits_of
buffer_read b =
    let field = get_d_bits_of 4 b.size.code in
    record {
      d00 = bit_number _ 0 ∙ field 0 (omega arith);
      d01 = bit_number _ 1 ∙ field 1 (omega arith);
      d02 = bit_number _ 2 ∙ field 2 (omega arith);
      d03 = bit_number _ 3 ∙ field 3 (omega arith);
      d04 = bit_number _ 4;
      d05 = bit_number _ 5;
      d06 = read_exactly (bit_number _ 6) (clock_ready_exactly b.core);
      d07 = bit_number _ 7;
      d08 = bit_number _ 8;
      d09 = read_exactly (bit_number _ 9) (or_exactly b.core.load.pending b.core.load.opened);
      d10 = read_exactly (bit_number _ 10) (open_exactly b.core);
      d11 = bit_number _ 11;
      d12 = read_exactly (bit_number _ 12) (eqb-true _ _, eq-eqb _ _);
      d13 = read_exactly (bit_number _ 13) (ltb-true _ _, lt-ltb _ _);
      d14 = read_exactly (bit_number _ 14) (leb-true _ _, le-leb _ _);
      d15 = read_exactly (bit_number _ 15) (leb-true _ _, le-leb _ _);
      d16 = bit_number _ 16;
      d17 = bit_number _ 17;
      d18 = number_below _;
    }

pub fields_read : Fields-read
unfolding registers read_from mask_bits rate_bits option_bits adjust_bits number flag
fields_read b =
    record {
      mask = number_bits_of 20 _;
      rate = number_bits_of 16 _;
      assembly = simp (append_assoc, number_field, number_bits_of) (omega arith);
      autocal = refl;
      output_data = refl;
      adjust = λ a. rw (a, number_field 9 b.core.clock.nclk) (omega arith);
      alternate = λ a. rw (a, number_field 9 b.core.clock.nclk) (omega arith);
    }
