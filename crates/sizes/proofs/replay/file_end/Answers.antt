use mathlib.Core.Path.{sym, ap, ◌∙◌}
use Rattle.std.proofs.Common.{Ok}
use Rattle.std.proofs.lemmas.Result.{err_from_is_err_and}
use Rattle.run.specs.Ahead.{ahead_of}
use Rattle.run.proofs.Ways.{way_ends}
use Rattle.sizes.proofs.Ends.{reading_start, reading_on, reading_over}
use Rattle.sizes.proofs.replay.file_end.Goals as goal

pub loop-after-init : goal.loop-after-init
loop-after-init c = reading_start _

pub returns-in_err-after : goal.returns-in_err-after
returns-in_err-after c =
    let p = err_from_is_err_and c.from_residual.result c.from_residual.ensures.1 in
    rw (p.1, p.2) (reading_over _ _ _ c.loop-after.invariant (sym c.next.ensures.told ∙ ap ahead_of c.in_err-after.was))

pub loop-after-smaller : goal.loop-after-smaller
loop-after-smaller c =
    way_ends c.args.s.now c.loop-after.c _ _ (sym c.next.ensures.told ∙ ap ahead_of (c.in_ok-after.was ∙ ap Ok c.in-Some.is))

pub loop-after-preserved : goal.loop-after-preserved
loop-after-preserved c =
    reading_on _ _ _ _ c.loop-after.invariant (sym c.next.ensures.told ∙ ap ahead_of (c.in_ok-after.was ∙ ap Ok c.in-Some.is))

pub returns : goal.returns
returns c =
    reading_over _ _ _ c.loop-after.invariant (sym c.next.ensures.told ∙ ap ahead_of (c.in_ok-after.was ∙ ap Ok c.in_default.is))
