-- `write` meets its contract: refused, nothing is written; else what is written is the session.
use Prim.Native.Nat.{◌%◌}
use mathlib.Core.Path.{◌≡◌, sym, ◌∙◌}
use borrow.Author.Tests.{eqb-true, eqb-false}
use lib.ListN.{length}
use Rattle.std.proofs.lemmas.Result.{err_from_is_err_and}
use Rattle.file_rules.proofs.Joined.{renamed}
use Rattle.file_rules.proofs.WritesGiven.{part_refused}
use Rattle.writer.specs.Written.{refusal_number, outcome_number}
use Rattle.writer.proofs.Calls.{file_bytes, row_refused, by_room, session_fits}
use Rattle.writer.proofs.Outcomes.{write_stopped, write_done}
use Rattle.writer.proofs.write.Goals as goal

pub returns-then-not-is_empty : goal.returns-then-not-is_empty
unfolding refusal_number
returns-then-not-is_empty c =
    let some = eqb-false (length c.as_chunks.result.1.now) 0 (sym c.is_empty.ensures ∙ c.if-not-is_empty.true) in
    write_stopped _ _ _ _ (sym (part_refused _ _ _ (λ z. some (c.as_chunks.ensures.back_len ∙ z))))

pub returns-in_err-fields : goal.returns-in_err-fields
returns-in_err-fields c =
    let whole : length c.args.rows.now % 6 ≡ 0 = sym c.as_chunks.ensures.back_len ∙ eqb-true (length c.as_chunks.result.1.now) 0 (sym c.is_empty.ensures ∙ c.if-not-is_empty.false) in
    let p = err_from_is_err_and c.from_residual.result c.from_residual.ensures.1 in
    rw (p.1, p.2) (write_stopped _ _ _ _ (row_refused _ _ c.as_chunks.ensures.front _ _ whole _ c.in_err-fields.ensures))

pub returns-in_err-check_room : goal.returns-in_err-check_room
unfolding outcome_number
returns-in_err-check_room c =
    let whole : length c.args.rows.now % 6 ≡ 0 = sym c.as_chunks.ensures.back_len ∙ eqb-true (length c.as_chunks.result.1.now) 0 (sym c.is_empty.ensures ∙ c.if-not-is_empty.false) in
    let p = err_from_is_err_and c.from_residual-in_err-check_room.result c.from_residual-in_err-check_room.ensures.1 in
    rw (p.1, p.2)
    (write_stopped _ _ _ _
    (c.in_err-check_room.ensures ∙ by_room _ _ c.as_chunks.ensures.front _ _ whole c.in_ok-fields.ensures c.as_chunks.ensures.front_len))

pub put_session-requires-clause-room : goal.put_session-requires-clause-room
unfolding outcome_number
put_session-requires-clause-room c =
    let whole : length c.args.rows.now % 6 ≡ 0 = sym c.as_chunks.ensures.back_len ∙ eqb-true (length c.as_chunks.result.1.now) 0 (sym c.is_empty.ensures ∙ c.if-not-is_empty.false) in
    session_fits _ _ c.as_chunks.ensures.front _ _ whole c.in_ok-fields.ensures c.as_chunks.ensures.front_len (sym c.in_ok-check_room.ensures)

pub returns : goal.returns
unfolding outcome_number
returns c =
    let whole : length c.args.rows.now % 6 ≡ 0 = sym c.as_chunks.ensures.back_len ∙ eqb-true (length c.as_chunks.result.1.now) 0 (sym c.is_empty.ensures ∙ c.if-not-is_empty.false) in
    write_done _ _ _
    (sym (by_room _ _ c.as_chunks.ensures.front _ _ whole c.in_ok-fields.ensures c.as_chunks.ensures.front_len) ∙ sym c.in_ok-check_room.ensures)
    (renamed (file_bytes _ _ c.as_chunks.ensures.front) c.put_session.ensures)
