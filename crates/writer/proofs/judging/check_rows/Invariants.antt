-- `check_rows` meets its contract. The loop's invariant: the rows before this one are good, and the bytes of their fields are counted.
use Rattle.writer.proofs.Rows.{Judging}
use Rattle.writer.proofs.judging.check_rows.Given as goal

abbrev pub invariant-loop-row : goal.invariant-loop-row
invariant-loop-row l = Judging l.rows l.row-index l.fields
