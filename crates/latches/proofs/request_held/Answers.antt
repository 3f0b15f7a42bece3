use mathlib.Core.Path.{sym, ap}
use Rattle.rules.specs.Interrupt.{request_held}
use Rattle.latches.proofs.request_held.Goals as goal

pub returns-in-Write : goal.returns-in-Write
unfolding request_held
returns-in-Write c = record { told = rw c.bit.ensures.told (sym (ap (request_held c.args.q) c.in-Write.is)) }
