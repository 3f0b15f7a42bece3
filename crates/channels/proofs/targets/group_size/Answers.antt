-- A mask of 20 bits has as many ones as active channels.
use mathlib.Core.Path.{sym, ap, ◌∙◌}
use native.Mathlib.Nat.{div-one}
use lib.Count.{ones}
use lib.ListN.{length}
use Rattle.laws.proofs.Actives.{active_ones}
use Rattle.channels.proofs.Moving.{targets_simultaneous, targets_sequential}
use Rattle.channels.proofs.targets.group_size.Goals as goal

pub returns-then-c : goal.returns-then-c
returns-then-c c =
    let m = c.args.c.outputs.mask in
    let e = div-one m in
    let size = ap length (targets_simultaneous c.args.c c.if-c.true) ∙ active_ones 20 0 m (rw e c.requires) ∙ ap ones e in
    sym size

pub returns-else-c : goal.returns-else-c
returns-else-c c = ap length (sym (targets_sequential c.args.c c.if-c.false))
