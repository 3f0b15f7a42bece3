use borrow.Author.Rules.{rules}
use Rattle.sizes.proofs.replay.loses.Goals as goal

pub returns-in-Ok-LostToFull : goal.returns-in-Ok-LostToFull
returns-in-Ok-LostToFull c = rw c.in-Ok-LostToFull.is (search rules)
