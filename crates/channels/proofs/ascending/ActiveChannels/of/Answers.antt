-- The bits from 20 up are none of theirs.
use native.Mathlib.Omega.{arith}
use Rattle.channels.proofs.Ones.{cut_channels}
use Rattle.channels.proofs.ascending.ActiveChannels.of.Goals as goal

pub returns : goal.returns
returns c = cut_channels c.args.mask _ (omega arith)
