-- A write to 00h, the board control register, with D15 clear.
use Prim.Native.Nat.{ℕ}
use mathlib.Core.Path.{◌≡◌, refl, sym, ◌∙◌}
use mathlib.Core.Logic.{◌≢◌}
use mathlib.Core.Bool.{Bool, true, false, and-false}
use native.Mathlib.Omega.{arith}
use Rattle.rules.specs.Types.{Calibration, write}
use Rattle.rules.specs.Bits.{bit, bits_of}
use Rattle.rules.specs.Record.{State}
use Rattle.rules.specs.Registers.{control_bits, registers, read_from}
use Rattle.rules.specs.Writes.{burst_of, cursor_of, calibration_of, write_control, on_write}
use Rattle.rules.specs.Play.{play}
use Rattle.rules.specs.Place.{place}
use Rattle.rules.specs.Size.{code_of, size_after}
use Rattle.rules.specs.Laws.Refusals.{Calibrating, Given, written}
use Rattle.rules.specs.Laws.Stays.{all, ◌also◌}
use Rattle.rules.specs.Laws.Written.{none, next, ControlWritten, Control-written}
use Rattle.rules.proofs.Choice.{cases, not_true, not_false}
use Rattle.rules.proofs.Refusals.{refusal_exactly}
use Rattle.rules.proofs.Readings.{bit_number, get_d_part}
use Rattle.rules.proofs.Played.{after_play, played_after}

-- a write that is done found no calibration
write_rests : {s : State} {o v : ℕ} → Given s (write o v) 0 → ¬ Calibrating s
write_rests (written st h m m' c) = c

-- then D13 reads as written
calibration_read : (v : ℕ) (x : Calibration) → x.running ≡ false → (calibration_of v x).running ≡ bit 13 v
unfolding calibration_of
calibration_read v x h = cases (λ (y : Calibration). y.running ≡ bit 13 v) (bit 13 v) (λ e. sym e) (λ e. h ∙ sym e)

cursor_turned : (was is : Bool) (n : ℕ) → is ≢ was → cursor_of was is n ≡ 0
unfolding cursor_of
cursor_turned true is n h = rw (not_true is h)
cursor_turned false is n h = rw (not_false is h)

cursor_unturned : (was is : Bool) (n : ℕ) → is ≡ was → cursor_of was is n ≡ n
unfolding cursor_of
cursor_unturned true is n h = rw h
cursor_unturned false is n h = rw h

control_after : (s : State) (v : ℕ) → ¬ Calibrating s → bit 15 v ≡ false → (q : Bool)
    → ControlWritten s v (after_play s (write 0x00 v) (write_control s.board.core v) q)
unfolding write_control burst_of calibration_of place size_after code_of registers read_from control_bits bits_of
control_after s v r e q =
    record {
      stored = next (bit_number _ 0)
          (next (bit_number _ 3)
          (next (bit_number _ 4)
          (next (bit_number _ 5)
          (next (bit_number _ 6)
          (next (bit_number _ 7)
          (next (bit_number _ 8 ∙ get_d_part 3 8 0 v (omega arith))
          (next (bit_number _ 9 ∙ get_d_part 3 8 1 v (omega arith))
          (next (bit_number _ 10 ∙ get_d_part 3 8 2 v (omega arith))
          (next (bit_number _ 13 ∙ calibration_read v s.board.core.calibration (not_true _ r)) none)))))))));
      reserved = (bit_number _ 12, bit_number _ 15);
      ended = λ a. rw a;
      started = λ a b c. rw (a, b, c);
      goes_on = λ a b. rw (a, b, and-false);
      unasked = λ a b. rw (a, b);
      turned = cursor_turned _ (bit 7 v) _;
      unturned = cursor_unturned _ (bit 7 v) _;
      calibrates = λ a. rw a;
      uncalibrated = λ a. rw a;
      stays = refl also refl also refl also refl also refl also refl also refl also refl also all;
      room = record { size = rw e; ring = refl; memory = refl };
    }

pub control_written : Control-written
unfolding play on_write
control_written s v h e =
    played_after (ControlWritten s v) s (write 0x00 v) (write_control s.board.core v) h (rw e)
    (control_after s v (write_rests ((refusal_exactly s (write 0x00 v) 0).0 h)) e)
