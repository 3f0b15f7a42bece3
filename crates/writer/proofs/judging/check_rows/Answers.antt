use native.Mathlib.Omega.{arith}
use Rattle.std.proofs.lemmas.Result.{err_from_is_err_and}
use Rattle.writer.proofs.Outcomes.{some_number}
use Rattle.writer.proofs.Rows.{judging_next, judging_bad, judging_over}
use Rattle.writer.proofs.judging.check_rows.Goals as goal

pub returns-in_err-fields : goal.returns-in_err-fields
returns-in_err-fields c =
    let p = err_from_is_err_and c.from_residual.result c.from_residual.ensures.1 in
    rw (p.1, p.2) (judging_bad _ _ c.loop-row-test.true _ c.loop-row.invariant c.in_err-fields.ensures (some_number _))

pub loop-row-preserved : goal.loop-row-preserved
loop-row-preserved c = judging_next _ _ c.loop-row-test.true _ c.loop-row.invariant c.in_ok-fields.ensures

pub returns : goal.returns
returns c = judging_over c.loop-row.invariant (omega (arith, c.loop-row-test.false))
