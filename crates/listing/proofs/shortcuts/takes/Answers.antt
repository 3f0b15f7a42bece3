use Rattle.rules.specs.Bits.{all}
use Rattle.listing.specs.Shortcuts.{takes}
use Rattle.listing.proofs.shortcuts.takes.Goals as goal

pub returns : goal.returns
unfolding all takes
returns c = rw (c.is_full.ensures.told, c.closed.ensures.told)
