use Rattle.rules.specs.Record.{options_in_range}
use Rattle.soundness.proofs.Joined.{joined, all_joined}
use Rattle.soundness.proofs.clauses.options_in_range.Goals as goal

pub returns : goal.returns
unfolding options_in_range joined
returns c =
    rw (c.code_in_range.ensures.told, c.code_in_range-2.ensures.told, c.code_in_range-3.ensures.told, c.firmware_in_range.ensures.told)
    (all_joined _ _)
