use mathlib.Core.Path.{◌∙◌}
use Rattle.rules.specs.Registers.{buffer_bits, registers, read_from}
use Rattle.registers.proofs.BitNumbers.{bits_of_4}
use Rattle.registers.proofs.bitwise.read_buffer.Goals as goal

pub returns : goal.returns
unfolding registers read_from buffer_bits
returns c =
    c.number_of.ensures
    ∙ rw (
      c.is_full.ensures.told,
      c.is_high.ensures.told,
      c.is_low.ensures.told,
      c.is_empty.ensures.told,
      c.closed.ensures.told,
      c.clock_ready.ensures.told,
      c.active_size-size.ensures.told,
      c.bit.ensures.told,
      c.bit-2.ensures.told,
      c.bit-3.ensures.told,
      c.bit-4.ensures.told,
      bits_of_4 c.args.b.size.code,
    )
