-- Writes to 04h, 08h and 1Ch, a calibration's end and a settled event.
use Prim.Native.Nat.{ℕ, ◌%◌, ◌^◌, ◌<◌}
use mathlib.Core.Path.{◌≡◌, refl, sym, ◌∙◌}
use mathlib.Core.Bool.{Bool, true, false, ◌||◌, and-true, and-false, or-true, or-false}
use native.Mathlib.Nat.{mod-lt, mod-eq_of_lt, mod-mod, le_trans}
use native.Mathlib.Omega.{arith}
use borrow.Author.Tests.{eq-eqb, ne_eqb}
use lib.Pow.{pow_pos, pow_mono}
use Rattle.rules.specs.Types.{Board, Clock, Core, Event, write, signal, passed, failed, settled}
use Rattle.rules.specs.Bits.{bit, bits_of, number}
use Rattle.rules.specs.Record.{State, channels}
use Rattle.rules.specs.Parts.{with_clock}
use Rattle.rules.specs.Registers.{control_bits, buffer_bits, mask_bits, rate_bits, adjust_bits, registers, read_from, read_at}
use Rattle.rules.specs.Writes.{write_mask, write_rate, write_adjust, on_write}
use Rattle.rules.specs.Play.{calibration_ends, settles, on_signal, play}
use Rattle.rules.specs.Place.{place}
use Rattle.rules.specs.Size.{code_of, size_after}
use Rattle.rules.specs.Laws.Stays.{AllStay, all, ◌also◌}
use Rattle.rules.specs.Laws.Written.{MaskWritten, Mask-written, besides_clock, RateWritten, Rate-written, AdjustWritten, Adjust-written, CalibrationEnded, Passed-calibrated, Failed-calibrated, ClockSettled, Settled-clock}
use Rattle.rules.proofs.Sizes.{channels_le}
use Rattle.rules.proofs.Readings.{bit_number, flag_bit, number_bits_of, number_field}
use Rattle.rules.proofs.Played.{after_play, played_after}

-- ---- What stays

-- a clock put anew leaves all else
clock_alone : (c : Core) (x : Clock) → AllStay c (with_clock x c) besides_clock
clock_alone c x = refl also refl also refl also refl also refl also refl also refl also refl also refl also refl also refl also all

-- ---- 04h

-- the mask of the fitted channels has no more than the register's 20 bits
mask_fits : (kit v : ℕ) → v % 2 ^ channels kit < 2 ^ 20
mask_fits kit v = le_trans (mod-lt v (pow_pos (channels kit))) (pow_mono (channels_le kit))

pub mask_written : Mask-written
unfolding play on_write write_mask place size_after code_of registers read_from mask_bits
mask_written s v h =
    played_after (MaskWritten s v) s (write 0x04 v) (write_mask s.board.core v) h refl (λ q.
    record {
      stored = number_bits_of 20 _ ∙ mod-eq_of_lt (mask_fits s.board.core.options.kit v);
      mask = refl;
      cursor = refl;
      stays = refl also refl also refl also refl also refl also refl also refl also refl also refl also refl also all;
      room = record { size = refl; ring = refl; memory = refl };
    })

-- ---- 08h

pub rate_written : Rate-written
unfolding play on_write write_rate place size_after code_of registers read_from rate_bits adjust_bits
rate_written s v h =
    played_after (RateWritten s v) s (write 0x08 v) (write_rate s.board.core v) h refl (λ q.
    record {
      stored = number_bits_of 16 _ ∙ mod-mod v 0x10000;
      divisor = refl;
      adjust = refl;
      nclk = refl;
      alt = refl;
      settling = refl;
      stays = clock_alone s.board.core _;
      room = record { size = refl; ring = refl; memory = refl };
    })

-- ---- 1Ch

pub adjust_written : Adjust-written
unfolding play on_write write_adjust place size_after code_of registers read_from adjust_bits number
adjust_written s v h =
    played_after (AdjustWritten s v) s (write 0x1C v) (write_adjust s.board.core v) h refl (λ q.
    record {
      stored = rw (number_field 9 (v % 2 ^ 9), flag_bit 9 v) (omega arith);
      nclk = refl;
      alt = refl;
      divisor = refl;
      starts = λ a d. rw (a, ne_eqb (v % 0x200) s.board.core.clock.nclk d, or-true);
      same = λ a. rw (eq-eqb (v % 0x200) s.board.core.clock.nclk a, and-false, or-false);
      inner = λ a. rw (a, or-false);
      stays = clock_alone s.board.core _;
      room = record { size = refl; ring = refl; memory = refl };
    })

-- ---- Calibration and settling

-- a calibration's end: what a pass and a failure share, and D14
ended : (s : State) (e : Event) (failure q : Bool) → size_after s.board.size e ≡ s.board.size
    → let s' : State = after_play s e (calibration_ends s.board.core failure) q in
    CalibrationEnded s s' × (bit 14 (read_at s'.board 0x00) ≡ s.board.core.calibration.failed || failure)
unfolding calibration_ends place registers read_from control_bits bits_of
ended s e failure q h = (
  record {
    d13 = bit_number _ 13;
    calibrated = refl;
    stays = refl also refl also refl also refl also refl also refl also refl also refl also refl also refl also refl also all;
    room = record { size = h; ring = refl; memory = refl };
  },
  bit_number _ 14,
)

-- D14 reads the failure that the record holds
d14_read : (s : State) → bit 14 (read_at s.board 0x00) ≡ s.board.core.calibration.failed
unfolding registers read_from control_bits bits_of
d14_read s = bit_number (control_bits s.board) 14

pub passed_calibrated : Passed-calibrated
unfolding play on_signal size_after
passed_calibrated s h =
    played_after
    (λ s'. CalibrationEnded s s' × (bit 14 (read_at s'.board 0x00) ≡ bit 14 (read_at s.board 0x00)))
    s (signal passed) (calibration_ends s.board.core false) h refl
    (λ q. let x = ended s (signal passed) false q refl in (x.0, x.1 ∙ rw or-false (sym (d14_read s))))

pub failed_calibrated : Failed-calibrated
unfolding play on_signal size_after
failed_calibrated s h =
    played_after
    (λ s'. CalibrationEnded s s' × (bit 14 (read_at s'.board 0x00) ≡ true))
    s (signal failed) (calibration_ends s.board.core true) h refl
    (λ q. let x = ended s (signal failed) true q refl in (x.0, x.1 ∙ rw or-true))

-- D6, with nothing settling, by D4
ready_after : (b : Board) → b.core.clock.settling ≡ false → b.core.calibration.running ≡ false
    → bit 6 (read_at b 0x0C) ≡ b.core.mode.external
unfolding registers read_from buffer_bits bits_of
ready_after b h k = bit_number (buffer_bits b) 6 ∙ rw (h, k, and-true, and-true)

d4_read : (b : Board) → bit 4 (read_at b 0x0C) ≡ b.core.mode.external
unfolding registers read_from buffer_bits bits_of
d4_read b = bit_number (buffer_bits b) 4

pub settled_clock : Settled-clock
unfolding play on_signal settles place size_after
settled_clock s h =
    played_after (ClockSettled s) s (signal settled) (settles s.board.core) h refl (λ q.
    record {
      ready = λ r. ready_after _ refl r ∙ sym (d4_read s.board);
      settling = refl;
      divisor = refl;
      nclk = refl;
      alt = refl;
      stays = clock_alone s.board.core _;
      room = record { size = refl; ring = refl; memory = refl };
    })
