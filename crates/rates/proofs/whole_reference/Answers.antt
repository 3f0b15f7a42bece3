use Rattle.rules.specs.Rates.{whole_reference}
use Rattle.rates.proofs.References.{references, reference_at}
use Rattle.rates.proofs.whole_reference.Goals as goal

pub returns-then-k : goal.returns-then-k
unfolding whole_reference references
returns-then-k c = rw c.if-k.true (reference_at c.args.k.nclk c.requires)
