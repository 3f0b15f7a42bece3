-- The number of a signal is that of the signal that it says.
use mathlib.Core.Path.{ap, ◌∙◌}
use native.Mathlib.Omega.{arith}
use Rattle.file_rules.specs.Bytes.{signal_kind}
use Rattle.file_rules.proofs.Rewritten.{signal_kind_lem}
use Rattle.kinds.proofs.KindTryFromU32.try_from.Goals as goal

pub returns-in-4-to-9 : goal.returns-in-4-to-9
returns-in-4-to-9 c = ap signal_kind c.signal_of.ensures.told ∙ signal_kind_lem c.args.number (omega (arith, c.in-4-to-9)) (omega (arith, c.in-4-to-9))
