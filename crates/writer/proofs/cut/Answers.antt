-- `cut` meets its contract: refused, nothing is written; else what is written is the session.
use mathlib.Core.Path.{sym}
use lib.ListN.{length}
use Rattle.std.proofs.lemmas.Result.{err_from_is_err_and}
use Rattle.cut_rules.proofs.Given.{good_cut}
use Rattle.writer.specs.Orders.{order_of}
use Rattle.writer.specs.Written.{outcome_number}
use Rattle.writer.proofs.Outcomes.{cut_stopped, cut_done}
use Rattle.writer.proofs.cut.Goals as goal

pub returns-in_err-check : goal.returns-in_err-check
unfolding outcome_number
returns-in_err-check c =
    let p = err_from_is_err_and c.from_residual.result c.from_residual.ensures.1 in
    rw (p.1, p.2) (cut_stopped _ _ _ _ c.in_err-check.ensures)

pub put_cut-requires-clause-good : goal.put_cut-requires-clause-good
unfolding outcome_number
put_cut-requires-clause-good c =
    let good = good_cut (order_of c.args.order.now) (length c.args.out.now) c.args.place (sym c.in_ok-check.ensures) in
    record { count = good.count; grouped = good.grouped; choice = good.choice }

pub put_cut-requires-clause-room : goal.put_cut-requires-clause-room
unfolding outcome_number
put_cut-requires-clause-room c = (good_cut (order_of c.args.order.now) (length c.args.out.now) c.args.place (sym c.in_ok-check.ensures)).room

pub returns : goal.returns
unfolding outcome_number
returns c = cut_done _ _ _ (sym c.in_ok-check.ensures) c.put_cut.ensures
