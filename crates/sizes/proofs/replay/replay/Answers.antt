use mathlib.Core.Path.{◌≡◌, sym, ap, ◌∙◌}
use borrow.Author.Rules.{rules}
use Rattle.std.proofs.Common.{Ok, None}
use Rattle.file_rules.specs.Item.{File, Refused}
use Rattle.run.specs.Ahead.{ahead_of}
use Rattle.run.proofs.Ways.{way_ends}
use Rattle.sizes.proofs.Replays.{replaying_start, replaying_on, replaying_over}
use Rattle.sizes.proofs.replay.replay.Goals as goal

pub loop-e-init : goal.loop-e-init
loop-e-init c = replaying_start _ _ _ _ c.unpowered-b.ensures.told

pub loop-e-smaller : goal.loop-e-smaller
loop-e-smaller c =
    let w = c.in-Ok-Some in way_ends c.args.s.now c.loop-e.c _ _ (sym c.next.ensures.told ∙ ap ahead_of (w.is ∙ ap Ok w.field-0-is))

pub loop-e-preserved : goal.loop-e-preserved
loop-e-preserved c =
    let w = c.in-Ok-Some in
    replaying_on _ c.loop-e.invariant _ _ _ _ _ _ (sym c.next.ensures.told ∙ ap ahead_of (w.is ∙ ap Ok w.field-0-is)) c.sized.ensures c.step-r.ensures c.loses.ensures c.step-r.auto.memory

pub returns-in_default : goal.returns-in_default
returns-in_default c =
    let w = c.in_default in
    let over : w.field-0 ≡ None = search rules in
    replaying_over _ c.loop-e.invariant File (sym c.next.ensures.told ∙ ap ahead_of (w.is ∙ ap Ok over))

pub returns-in_default-2 : goal.returns-in_default-2
returns-in_default-2 c =
    let w = c.in_default in
    replaying_over _ c.loop-e.invariant (Refused w.field-0.fault w.field-0.place) (sym c.next.ensures.told ∙ ap ahead_of w.is)
