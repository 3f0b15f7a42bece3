-- A call is looked at if its lengths and its kind are right; then it is the step's.
use native.Mathlib.Omega.{arith}
use Prim.Native.Nat.{ℕ}
use mathlib.Core.Path.{◌≡◌, sym, ap, ◌∙◌}
use mathlib.Core.List.{List}
use mathlib.Core.Bool.{false}
use lib.Dec.{eqb}
use lib.ListN.{length}
use borrow.Author.Rules.{rules}
use borrow.Author.Tests.{eq-eqb, ne_eqb}
use Rattle.file_rules.specs.Row.{event_of_row}
use Rattle.rows.specs.Reading.{at}
use Rattle.rows.specs.Promises.{row_written}
use Rattle.bridge.specs.Misfits.{status_number}
use Rattle.bridge.specs.Calls.{no_kind}
use Rattle.bridge.specs.Calls.{call_status}
use Rattle.bridge.proofs.Calls.{not_understood, understood, row_of_done, row_of_refused}
use Rattle.bridge.proofs.event_called.Goals as goal

pub returns-then-other : goal.returns-then-other
unfolding call_status
returns-then-other c = not_understood _ _ _ _ 1 (rw (ne_eqb _ _ c.if-other.true)) (λ k. omega arith)

pub returns-in_default : goal.returns-in_default
unfolding call_status
returns-in_default c =
    not_understood _ _ _ _ 2 (rw (eq-eqb _ _ c.if-other.false, ne_eqb _ _ c.in_default.ensures.cases)) (λ k. omega arith)

pub returns-then-misfit : goal.returns-then-misfit
unfolding call_status
returns-then-misfit c =
    let event = c.in-Some.ensures.cases in
    let room : eqb (length c.args.answer.now) 4 ≡ false = ne_eqb _ _ (λ k. omega arith) in
    not_understood _ _ _ _ 3 (rw (eq-eqb _ _ c.if-other.false, eq-eqb _ _ event.long, room)) (λ k. omega arith)

pub returns-in_err-event : goal.returns-in_err-event
unfolding call_status
returns-in_err-event c =
    let event = c.in-Some.ensures.cases in
    let unknown = ap (λ (e : List ℕ). no_kind (at e 0)) (sym event.same) ∙ c.in_err-event.ensures in
    let four : status_number c.from_residual.result ≡ 4 = search rules in
    rw four (not_understood _ _ _ _ 4
    (rw (eq-eqb _ _ c.if-other.false, eq-eqb _ _ event.long, eq-eqb _ _ c.if-misfit.false, unknown)) (λ k. omega arith))

pub returns-then-done : goal.returns-then-done
unfolding call_status row_written
returns-then-done c =
    let event = c.in-Some.ensures.cases in
    let long = eq-eqb _ _ c.if-other.false in
    let known = ap (λ (e : List ℕ). no_kind (at e 0)) (sym event.same) ∙ c.in_ok-event.ensures.0 in
    understood _ _ _ _ _ _ _ _ _ _
    (rw (long, eq-eqb _ _ event.long, eq-eqb _ _ c.if-misfit.false, known)) c.if-other.false c.board_at.ensures
    (c.in_ok-event.ensures.1 ∙ ap event_of_row event.same) c.step-reply.ensures
    (c.copy_from_slice.ensures.after ∙ c.answer_row.ensures)
    (row_of_done c.step-reply.result.answer _ _ _ (sym c.is_ok-done.ensures.value ∙ c.if-done.true) (rw long at c.put_board.ensures.left))

pub returns-else-done : goal.returns-else-done
unfolding call_status
returns-else-done c =
    let event = c.in-Some.ensures.cases in
    let known = ap (λ (e : List ℕ). no_kind (at e 0)) (sym event.same) ∙ c.in_ok-event.ensures.0 in
    understood _ _ _ _ _ _ _ _ _ _
    (rw (eq-eqb _ _ c.if-other.false, eq-eqb _ _ event.long, eq-eqb _ _ c.if-misfit.false, known)) c.if-other.false c.board_at.ensures
    (c.in_ok-event.ensures.1 ∙ ap event_of_row event.same) c.step-reply.ensures
    (c.copy_from_slice.ensures.after ∙ c.answer_row.ensures)
    (row_of_refused c.step-reply.result.answer _ _ (sym c.is_ok-done.ensures.value ∙ c.if-done.false))
