-- `check` meets its contract: its tests are those of the rule, in its order, and the bytes that are counted are those of the session.
use Prim.Native.Nat.{◌+◌, ◌*◌}
use mathlib.Core.Path.{◌≡◌, sym, ap, ◌∙◌}
use mathlib.Core.Bool.{true}
use native.Mathlib.Omega.{arith}
use lib.ListN.{length}
use Rattle.file_rules.specs.Bytes.{file_of}
use Rattle.cut_rules.specs.Cut.{Cut, events, is_grouped, is_choice}
use Rattle.cut_rules.proofs.Given.{grouped_to}
use Rattle.writer.specs.Orders.{order_of}
use Rattle.writer.specs.Room.{room_refusal}
use Rattle.writer.specs.Written.{refusal_number, outcome_number}
use Rattle.writer.proofs.Orders.{good_order, ungrouped, unchosen, by_room}
use Rattle.writer.proofs.Cutting.{session_long}
use Rattle.writer.proofs.order.Order.check.Goals as goal

pub returns-then-not-is_grouped : goal.returns-then-not-is_grouped
unfolding outcome_number refusal_number
returns-then-not-is_grouped c = sym (ungrouped _ _ _ (sym c.is_grouped.ensures ∙ c.if-not-is_grouped.true))

pub is_choice-requires : goal.is_choice-requires
is_choice-requires c =
    let g = grouped_to _ (sym c.is_grouped.ensures ∙ c.if-not-is_grouped.false) in (g.some, g.most)

pub returns-then-not-is_choice : goal.returns-then-not-is_choice
unfolding outcome_number refusal_number
returns-then-not-is_choice c =
    sym (unchosen _ _ _ (sym c.is_grouped.ensures ∙ c.if-not-is_grouped.false) (sym c.is_choice.ensures ∙ c.if-not-is_choice.true))

pub values-requires : goal.values-requires
values-requires c = good_order _ (sym c.is_grouped.ensures ∙ c.if-not-is_grouped.false) (sym c.is_choice.ensures ∙ c.if-not-is_choice.false)

pub returns : goal.returns
returns c =
    let order : Cut = order_of c.args.self.now in
    let grouped : is_grouped order ≡ true = sym c.is_grouped.ensures ∙ c.if-not-is_grouped.false in
    let chosen : is_choice order ≡ true = sym c.is_choice.ensures ∙ c.if-not-is_choice.false in
    let counted : 1 + 8 * (1 + c.values.result) ≡ length (file_of (events order)) =
    omega (arith, c.values.ensures, session_long (good_order order grouped chosen)) in
    c.check_room.ensures ∙ ap (room_refusal c.args.length c.args.place) counted ∙ sym (by_room order _ _ grouped chosen)
