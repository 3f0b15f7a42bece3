use mathlib.Core.Path.{refl}
use Rattle.file_rules.specs.File.{session}
use Rattle.run.proofs.events.Events.of.Goals as goal

pub returns : goal.returns
unfolding session
returns c = refl
