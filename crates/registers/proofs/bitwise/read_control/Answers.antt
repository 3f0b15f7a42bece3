use mathlib.Core.Path.{◌∙◌}
use Rattle.rules.specs.Registers.{control_bits, registers, read_from}
use Rattle.registers.proofs.BitNumbers.{bits_of_3}
use Rattle.registers.proofs.bitwise.read_control.Goals as goal

pub returns : goal.returns
unfolding registers read_from control_bits
returns c =
    let b = c.args.b in
    c.number_of.ensures ∙ rw (c.burst_ready.ensures.told, c.bit.ensures.told, c.bit-2.ensures.told, c.bit-3.ensures.told, bits_of_3 b.core.control.selection)
