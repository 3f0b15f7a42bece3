use mathlib.Core.Path.{ap, ◌∙◌}
use native.Mathlib.Omega.{arith}
use Rattle.volts.specs.Watching.{at_once}
use Rattle.volts.proofs.Entries.{upto_start, upto_next}
use Rattle.volts.proofs.running.start_all.Goals as goal

pub loop-k-init : goal.loop-k-init
loop-k-init c = upto_start _ _ c.told-channels

pub loop-k-preserved : goal.loop-k-preserved
loop-k-preserved c =
    let l = c.loop-k in
    upto_next _ _ l.k l.channels _ c.loop-k-test.true l.invariant (c.at_once.ensures ∙ ap at_once c.volts_of.ensures)

pub returns : goal.returns
returns c =
    let u = c.loop-k.invariant in
    record { twenty = u.long; each = λ j b. u.done j (omega (arith, b, c.loop-k-test.false)) }
