use mathlib.Core.Path.{sym, ap}
use Rattle.rules.specs.Refusals.{ends_nothing}
use Rattle.refusals.proofs.events.ends_nothing.Goals as goal

pub returns-in-Settled : goal.returns-in-Settled
unfolding ends_nothing
returns-in-Settled c = sym (ap (ends_nothing c.args.c) c.in-Settled.is)
