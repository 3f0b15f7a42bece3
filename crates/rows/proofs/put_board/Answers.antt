-- A row of 55 numbers is the record's afterwards; any other is as it was.
use mathlib.Core.Path.{refl, sym}
use borrow.Author.Tests.{eq-eqb, ne_eqb}
use Rattle.rows.specs.Promises.{row_written}
use Rattle.rows.proofs.put_board.Goals as goal

pub returns-in_default : goal.returns-in_default
unfolding row_written
returns-in_default c =
    let no = ne_eqb _ _ c.in_default.ensures.cases in
    record { understood = sym no; left = rw no refl }

pub returns : goal.returns
unfolding row_written
returns c =
    let yes = eq-eqb _ _ c.in-Some.ensures.cases.long in
    record { understood = sym yes; left = rw yes c.put_row.ensures }
