use mathlib.Core.Path.{refl, sym, subst, ◌∙◌}
use native.Mathlib.Omega.{arith}
use Rattle.rules.specs.declared.Core.{Core}
use Rattle.run.specs.Ahead.{ahead_of}
use Rattle.run.proofs.Ways.{way_ends}
use Rattle.lines.proofs.Printing.{printed_piece}
use Rattle.listing.specs.declared.hurry.Reached.{Reached}
use Rattle.listing.specs.Shortcuts.{board_as, reply_of}
use Rattle.listing.specs.Draft.{board_now, draft, Walked}
use Rattle.listing.proofs.Walking.{walked_start, walked_then, walked_on, line_room, number_small}
use Rattle.listing.proofs.AtHand.{hand_known}
use Rattle.listing.proofs.hurry.hurry.Goals as goal

pub loop-common-init : goal.loop-common-init
loop-common-init c =
    (refl, refl, walked_start c.args.s.now c.args.start.cursor _ c.requires.1)

pub shape_of-memory : goal.shape_of-memory
shape_of-memory c = c.loop-common.invariant.0

pub shape_of-out : goal.shape_of-out
shape_of-out c = c.loop-common.invariant.1

pub returns : goal.returns
returns c =
    let a = c.args in
    let l = c.loop-common in
    let left : Core → Reached = λ x. record { cursor = l.cursor; board = board_as a.start.board x l.ring; at = l.at; number = l.number } in
    subst (λ (x : Core). Walked a.s.now a.start.cursor (draft a.start a.memory.now a.out.now) l.cursor (draft (left x) l.memory l.out))
    (sym c.with_levels-core.ensures) l.invariant.2

pub at_once-change-requires : goal.at_once-change-requires
at_once-change-requires c =
    (record { told = c.depth-d.ensures.told }, (hand_known _ _ (ahead_of c.next.result) (c.in-Some.common, c.in-Some.after) c.in-Some.ensures).1, c.loop-common.invariant.2.fair.sound)

pub overflow_add-number : goal.overflow_add-number
overflow_add-number c =
    let l = c.loop-common in
    let now : Reached = record { cursor = l.cursor; board = board_now c.args.start.board l.core l.levels l.ring; at = l.at; number = l.number } in
    record { fits = omega (arith, number_small _ _ now _ _ l.invariant.2.fair c.requires.0) }

pub loop-common-smaller : goal.loop-common-smaller
loop-common-smaller c =
    way_ends c.args.s.now c.loop-common.cursor _ _ (sym c.next.ensures.told ∙ (hand_known _ _ (ahead_of c.next.result) (c.in-Some.common, c.in-Some.after) c.in-Some.ensures).0)

pub loop-common-preserved : goal.loop-common-preserved
loop-common-preserved c =
    let a = c.args in
    let l = c.loop-common in
    let f = l.invariant.2.fair in
    let now : Reached = record { cursor = l.cursor; board = board_now a.start.board l.core l.levels l.ring; at = l.at; number = l.number } in
    let stood = sym c.next.ensures.told ∙ (hand_known _ _ (ahead_of c.next.result) (c.in-Some.common, c.in-Some.after) c.in-Some.ensures).0 in
    let line = printed_piece (rw c.fate_number-fate.ensures at c.put_done-at.ensures) (line_room _ _ now _ _ f) in
    let reply = reply_of (board_as a.start.board l.core l.ring) c.at_once-change.result c.at_once-change.new.levels in
    let on = walked_on a.s.now l.cursor now l.memory l.out f _ _ stood reply _ _ _ c.at_once-change.ensures line in
    (c.at_once-change.auto.memory ∙ l.invariant.0, c.put_done-at.auto.out ∙ l.invariant.1, walked_then _ _ _ _ _ _ _ l.invariant.2 on)
