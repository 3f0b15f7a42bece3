use native.Mathlib.Omega.{arith}
use lib.Dec.{le→leb}
use lib.Ieee.{in_float, of_bits}
use Rattle.volts.proofs.Shares.{div_share}
use Rattle.volts.proofs.levels.share_of.Goals as goal

pub int_to_float-result : goal.int_to_float-result
unfolding in_float
int_to_float-result c = le→leb c.args.n 16777216 (omega (arith, c.requires))

pub returns : goal.returns
unfolding of_bits
returns c = div_share c.args.n (omega (arith, c.requires))
