-- A write to 0Ch, buffer operations, with D7 clear.
use Prim.Native.Nat.{ℕ}
use mathlib.Core.Path.{◌≡◌, refl, sym, ap, ◌∙◌}
use mathlib.Core.Bool.{Bool, false, ◌&&◌, cond}
use native.Mathlib.Omega.{arith}
use Rattle.rules.specs.Types.{Core, write, none as no_fate}
use Rattle.rules.specs.Bits.{bit, bits_of}
use Rattle.rules.specs.Record.{State, depth}
use Rattle.rules.specs.Clocks.{Op, keep, clear, Play}
use Rattle.rules.specs.Registers.{buffer_bits, registers, read_from}
use Rattle.rules.specs.Writes.{load_kept, load_asked, buffer_of, tried, write_buffer, on_write}
use Rattle.rules.specs.Play.{play}
use Rattle.rules.specs.Place.{place, place_of}
use Rattle.rules.specs.Size.{code_of, size_after}
use Rattle.rules.specs.Step.{played}
use Rattle.rules.specs.Laws.Stays.{all, ◌also◌}
use Rattle.rules.specs.Laws.Written.{none, next, BufferWritten, Buffer-written}
use Rattle.rules.proofs.Choice.{either, cond_apply}
use Rattle.rules.proofs.Readings.{bit_number, get_d_low}
use Rattle.rules.proofs.Played.{after_play, played_after}

-- what is played: the core, and the values dropped or kept
buffer_play : Bool → Core → Play
buffer_play cleared c = record { core = c; op = cond cleared clear keep; moved = 0; fate = no_fate }

buffer_played : (s : State) (v : ℕ) → bit 7 v ≡ false → played s (write 0x0C v) ≡ buffer_play (bit 11 v) (buffer_of v s.board.core)
unfolding play on_write write_buffer tried buffer_play
buffer_played s v e = rw e (cond_apply (λ t. buffer_play t (buffer_of v s.board.core)) (bit 11 v))

buffer_after : (s : State) (v : ℕ) (q : Bool) → BufferWritten s v (after_play s (write 0x0C v) (buffer_play (bit 11 v) (buffer_of v s.board.core)) q)
unfolding buffer_play buffer_of load_kept load_asked place size_after code_of registers read_from buffer_bits bits_of
buffer_after s v q =
    record {
      stored = next (bit_number _ 0 ∙ get_d_low 4 0 v (omega arith))
          (next (bit_number _ 1 ∙ get_d_low 4 1 v (omega arith))
          (next (bit_number _ 2 ∙ get_d_low 4 2 v (omega arith))
          (next (bit_number _ 3 ∙ get_d_low 4 3 v (omega arith))
          (next (bit_number _ 4)
          (next (bit_number _ 5)
          (next (bit_number _ 8) none))))));
      reserved = (bit_number _ 7, bit_number _ 11);
      overflow = bit_number _ 16 ∙ ap (λ (t : Bool). t && bit 16 v) (sym (bit_number (buffer_bits s.board) 16));
      frame_overflow = bit_number _ 17 ∙ ap (λ (t : Bool). t && bit 17 v) (sym (bit_number (buffer_bits s.board) 17));
      size = refl;
      uncircled = λ a. rw a;
      empties = λ a. rw a;
      ends = λ a. rw a;
      cursor = λ a. rw a;
      dropped = λ a b. rw (a, b);
      asked = λ a b c. rw (a, b, c);
      already_opened = λ a b c. rw (a, b, c);
      keeps = λ a. (rw a, rw a, rw a);
      memory = either (λ (o : Op). (place (depth s.board) o (place_of s)).memory ≡ s.memory) (bit 11 v) refl refl;
      stays = refl also refl also refl also refl also refl also refl also refl also all;
    }

pub buffer_written : Buffer-written
buffer_written s v h e = played_after (BufferWritten s v) s (write 0x0C v) (buffer_play (bit 11 v) (buffer_of v s.board.core)) h (buffer_played s v e) (buffer_after s v)
