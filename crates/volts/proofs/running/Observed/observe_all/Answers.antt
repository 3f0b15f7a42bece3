use mathlib.Core.Path.{sym, ap, ◌∙◌}
use mathlib.Core.Bool.{true, false}
use Rattle.std.proofs.Common.{Ok}
use Rattle.std.proofs.lemmas.Result.{err_from_is_err_and}
use Rattle.run.specs.Ahead.{ahead_of}
use Rattle.run.proofs.Ways.{way_ends}
use Rattle.volts.proofs.Tabling.{running_start, running_on, running_refused, running_over}
use Rattle.volts.proofs.running.Observed.observe_all.Goals as goal

pub loop-e-init : goal.loop-e-init
loop-e-init c = running_start _ _ _ c.requires.off c.requires.empty

pub returns-in_err-e : goal.returns-in_err-e
returns-in_err-e c =
    let x = c.in_err-e.field-0.0 in
    let p = err_from_is_err_and c.from_residual.result c.from_residual.ensures.1 in
    rw (p.1, p.2) (running_refused c.loop-e.invariant x.fault x.place (sym c.next.ensures.told ∙ ap ahead_of c.in_err-e.was))

pub loop-e-smaller : goal.loop-e-smaller
loop-e-smaller c =
    way_ends c.args.s.now c.loop-e.c _ _ (sym c.next.ensures.told ∙ ap ahead_of (c.in_ok-e.was ∙ ap Ok c.in-Some.is))

pub loop-e-preserved : goal.loop-e-preserved
loop-e-preserved c =
    let o = c.observe in
    running_on c.loop-e.invariant _ _ _ _ (sym c.next.ensures.told ∙ ap ahead_of (c.in_ok-e.was ∙ ap Ok c.in-Some.is)) o.ensures o.auto.memory

pub returns-then-self : goal.returns-then-self
returns-then-self c =
    running_over c.loop-e.invariant true c.if-self.true (sym c.next.ensures.told ∙ ap ahead_of (c.in_ok-e.was ∙ ap Ok c.in_default.is))

pub returns-else-self : goal.returns-else-self
returns-else-self c =
    running_over c.loop-e.invariant false c.if-self.false (sym c.next.ensures.told ∙ ap ahead_of (c.in_ok-e.was ∙ ap Ok c.in_default.is))
