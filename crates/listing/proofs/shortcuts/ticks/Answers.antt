use Rattle.rules.specs.Bits.{all}
use Rattle.listing.specs.Shortcuts.{ticks}
use Rattle.listing.proofs.shortcuts.ticks.Goals as goal

pub returns : goal.returns
unfolding all ticks
returns c = rw c.tick_accepted.ensures.told
