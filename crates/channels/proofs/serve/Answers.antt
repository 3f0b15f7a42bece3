-- The parts are those of `serving_of`, by whether any are to move.
use mathlib.Core.Path.{◌≡◌, sym, ◌∙◌}
use mathlib.Core.Bool.{true, false}
use borrow.Author.Tests.{eq-eqb, ne_eqb}
use lib.Dec.{eqb}
use Rattle.rules.specs.Clocks.{cursor_after}
use Rattle.rules.proofs.Choice.{cond_true, cond_false}
use Rattle.channels.specs.Serving.{to_move, served_by}
use Rattle.channels.specs.Serving.{serving_of}
use Rattle.channels.proofs.Ranges.{move_sober}
use Rattle.channels.proofs.serve.Goals as goal

pub returns-then-n-eq0 : goal.returns-then-n-eq0
unfolding serving_of
returns-then-n-eq0 c =
    let a = c.args in
    let n = sym c.to_move-n.ensures ∙ c.if-n-eq0.true in
    let t = eqb (to_move a.c a.count) 0 in
    let h : t ≡ true = eq-eqb _ _ n in
    let mask = sym (cond_true t 0 (served_by a.c) h) in
    let cursor = sym (cond_true t a.c.outputs.cursor (cursor_after a.c) h) in
    record { told = λ i. record { mask = mask i; moved = sym n i; cursor = cursor i; again = c.closed.ensures.told i } }

pub served-requires : goal.served-requires
served-requires c = (move_sober c.args.c c.args.count (λ e. c.if-n-eq0.false (c.to_move-n.ensures ∙ e))).cursor

pub cursor_after-requires : goal.cursor_after-requires
cursor_after-requires c = (move_sober c.args.c c.args.count (λ e. c.if-n-eq0.false (c.to_move-n.ensures ∙ e))).cursor

pub returns : goal.returns
unfolding serving_of
returns c =
    let a = c.args in
    let t = eqb (to_move a.c a.count) 0 in
    let h : t ≡ false = ne_eqb _ _ (λ e. c.if-n-eq0.false (c.to_move-n.ensures ∙ e)) in
    let mask = c.served.ensures ∙ sym (cond_false t 0 (served_by a.c) h) in
    let cursor = c.cursor_after.ensures ∙ sym (cond_false t a.c.outputs.cursor (cursor_after a.c) h) in
    record { told = λ i. record { mask = mask i; moved = c.to_move-n.ensures i; cursor = cursor i; again = c.closed.ensures.told i } }
