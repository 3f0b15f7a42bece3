-- The clauses of the core, and those of sizes and places.
use mathlib.Core.Bool.{◌&&◌}
use Rattle.rules.specs.Record.{sound}
use Rattle.soundness.proofs.is_sound.Goals as goal

pub returns : goal.returns
unfolding sound
returns c = record { told = λ i. c.sound_core.ensures i && c.sound_ring.ensures i }
