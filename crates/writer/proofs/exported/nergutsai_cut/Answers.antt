-- `nergutsai_cut` meets its contract: what `cut` says, in numbers.
use Rattle.writer.proofs.Outcomes.{cut_told}
use Rattle.writer.proofs.exported.nergutsai_cut.Goals as goal

pub returns : goal.returns
returns c = cut_told _ c.cut-cut.ensures c.number_of.ensures c.unwrap_or-stop.ensures
