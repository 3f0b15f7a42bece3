-- `nergutsai_write` meets its contract: what `write` says, in numbers.
use Rattle.writer.proofs.Outcomes.{write_told}
use Rattle.writer.proofs.exported.nergutsai_write.Goals as goal

pub returns : goal.returns
returns c = write_told _ c.write-written.ensures c.number_of.ensures c.unwrap_or-after.ensures
