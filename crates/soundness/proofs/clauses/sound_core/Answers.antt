use Rattle.rules.specs.Record.{sound_core}
use Rattle.soundness.proofs.Joined.{joined, all_joined}
use Rattle.soundness.proofs.clauses.sound_core.Goals as goal

pub returns : goal.returns
unfolding sound_core joined
returns c =
    rw (c.options_in_range.ensures, c.mask_limit.ensures.told, c.only_if.ensures, c.only_if-2.ensures, c.only_if-3.ensures, c.only_if-4.ensures)
    (all_joined _ _)
