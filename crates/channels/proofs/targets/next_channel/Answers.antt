-- The first of the channels from the cursor up, or the first of all.
use mathlib.Core.Path.{◌∙◌, sym}
use native.Mathlib.Omega.{arith}
use Rattle.rules.specs.Bits.{active_from, head_or}
use Rattle.rules.specs.Clocks.{next_channel}
use Rattle.channels.proofs.Heads.{head_there, head_append, first_or}
use Rattle.channels.proofs.targets.next_channel.Goals as goal

pub returns-in-Some : goal.returns-in-Some
unfolding next_channel
returns-in-Some c =
    let o = c.args.c.outputs in
    let e = c.in-Some.ensures in
    (e.0 ∙ head_there _ _ (rw e.0 at e.1) ∙ sym (head_append 0 (active_from o.cursor o.mask) (active_from 0 o.mask)), e.1)

pub returns-in-None : goal.returns-in-None
unfolding next_channel head_or
returns-in-None c =
    let o = c.args.c.outputs in
    let lowest = first_or 0 (active_from 0 o.mask) _ (omega arith) c.lowest_from-in-None.ensures in
    rw (c.in-None.ensures, c.unwrap_or.ensures) lowest
