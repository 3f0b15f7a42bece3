-- A row of 55 numbers is read; for any other a row of zeros is, which says the unpowered record.
use mathlib.Core.Path.{◌≡◌, refl, ap, ◌∙◌}
use borrow.Author.Tests.{eq-eqb, ne_eqb}
use lib.ListN.{replicate}
use Rattle.rules.specs.Record.{unpowered}
use Rattle.rows.specs.Places.{row_long}
use Rattle.rows.specs.Reading.{levels_at, core_at, board_at}
use Rattle.rows.specs.Promises.{told_of}
use Rattle.rows.proofs.board_at.Goals as goal

zeros_unpowered : board_at (replicate row_long 0) ≡ unpowered
unfolding board_at core_at levels_at unpowered
zeros_unpowered = refl

pub returns-in-Some : goal.returns-in-Some
unfolding told_of
returns-in-Some c =
    let whole = c.in-Some.ensures.cases in
    record { told = rw (eq-eqb _ _ whole.long) (c.board_in.ensures ∙ ap board_at whole.same) }

pub returns-in-None : goal.returns-in-None
unfolding told_of
returns-in-None c = record { told = rw (ne_eqb _ _ c.in-None.ensures.cases) (c.board_in-in-None.ensures ∙ zeros_unpowered) }
