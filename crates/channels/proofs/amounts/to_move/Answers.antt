use mathlib.Core.Path.{◌≡◌, sym, ◌∙◌}
use mathlib.Core.Bool.{true, false, ◌||◌}
use borrow.Author.Tests.{ltb-true}
use lib.Dec.{ltb}
use lib.ListN.{length}
use Rattle.rules.specs.Clocks.{idle, targets}
use Rattle.rules.proofs.Choice.{cond_true, cond_false, and_both}
use Rattle.channels.specs.Serving.{sober, to_move}
use Rattle.channels.proofs.Ranges.{moving_count}
use Rattle.channels.proofs.amounts.to_move.Goals as goal

pub group_size-size-requires : goal.group_size-size-requires
group_size-size-requires c = ltb-true _ _ (and_both _ _ c.if-c.true).0

pub returns-then-idle-count : goal.returns-then-idle-count
unfolding to_move sober
returns-then-idle-count c =
    let a = c.args in
    let h : idle a.c || ltb a.count (length (targets a.c)) ≡ true = sym (λ i. c.idle.ensures i || ltb a.count (c.group_size-size.ensures i)) ∙ c.if-idle-count.true in
    sym (cond_true _ _ _ c.if-c.true ∙ moving_count a.c a.count ∙ cond_true _ _ _ h)

pub returns-else-idle-count : goal.returns-else-idle-count
unfolding to_move sober
returns-else-idle-count c =
    let a = c.args in
    let h : idle a.c || ltb a.count (length (targets a.c)) ≡ false = sym (λ i. c.idle.ensures i || ltb a.count (c.group_size-size.ensures i)) ∙ c.if-idle-count.false in
    c.group_size-size.ensures ∙ sym (cond_true _ _ _ c.if-c.true ∙ moving_count a.c a.count ∙ cond_false _ _ _ h)

pub returns-else-c : goal.returns-else-c
unfolding to_move sober
returns-else-c c = sym (cond_false _ _ _ c.if-c.false)
