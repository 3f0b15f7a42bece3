-- `check_room` meets its contract: its tests are those of the rule, in its order.
use Prim.Native.Nat.{◌+◌, ◌≤◌, ◌<◌}
use mathlib.Core.Path.{sym, ◌∙◌}
use native.Mathlib.Omega.{arith}
use borrow.Author.Tests.{lt-ltb, le-ltb}
use Rattle.rules.specs.Refusals.{first_of}
use Rattle.rules.proofs.Choice.{cond_true, cond_false}
use Rattle.writer.specs.Written.{refusal_number, outcome_number}
use Rattle.writer.specs.Room.{room_refusal}
use Rattle.writer.proofs.room.check_room.Goals as goal

pub returns-then-length-place : goal.returns-then-length-place
unfolding room_refusal first_of outcome_number refusal_number
returns-then-length-place c = sym (cond_true _ _ _ (lt-ltb _ _ c.if-length-place.true))

pub returns-then-room-bytes : goal.returns-then-room-bytes
unfolding room_refusal first_of outcome_number refusal_number
returns-then-room-bytes c =
    let a = c.args in
    let longer : a.length < a.place + a.bytes = omega arith in
    sym (cond_false _ _ _ (le-ltb _ _ c.if-length-place.false) ∙ cond_true _ _ _ (lt-ltb _ _ longer))

pub returns : goal.returns
unfolding room_refusal first_of outcome_number
returns c =
    let a = c.args in
    let fits : a.place + a.bytes ≤ a.length = omega arith in
    sym (cond_false _ _ _ (le-ltb _ _ c.if-length-place.false) ∙ cond_false _ _ _ (le-ltb _ _ fits))
