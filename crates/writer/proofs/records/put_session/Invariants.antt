-- `put_session` meets its contract. The loop's invariant: with the records that are left, the session is whole.
use Rattle.writer.proofs.Rows.{Putting}
use Rattle.writer.proofs.records.put_session.Given as goal

abbrev pub invariant-loop-row : goal.invariant-loop-row
invariant-loop-row l = Putting l.rows l.initial.out l.initial.to l.out l.to l.row-index
