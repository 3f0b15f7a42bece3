use native.Mathlib.Omega.{arith}
use Rattle.file_rules.proofs.Joined.{then, piece_length}
use Rattle.writer.proofs.Rows.{row_good, row_fits, putting_next, putting_over}
use Rattle.writer.proofs.records.put_session.Goals as goal

pub loop-row-init : goal.loop-row-init
loop-row-init c =
    record {
      good = c.requires.good;
      room = omega (arith, c.requires.room, c.put-to.ensures.place, piece_length c.put-to.ensures);
      whole = λ o q r. r;
    }

pub put_row-to-requires-clause-good : goal.put_row-to-requires-clause-good
put_row-to-requires-clause-good c = row_good _ _ c.loop-row-test.true _ c.loop-row.invariant

pub put_row-to-requires-clause-room : goal.put_row-to-requires-clause-room
put_row-to-requires-clause-room c = row_fits _ _ c.loop-row-test.true _ c.loop-row.invariant

pub loop-row-preserved : goal.loop-row-preserved
loop-row-preserved c = putting_next _ _ c.loop-row-test.true _ c.loop-row.invariant c.put_row-to.ensures

pub returns : goal.returns
returns c = then c.put-to.ensures (putting_over c.loop-row.invariant (omega (arith, c.loop-row-test.false)))
