-- A read answers its register, any other event 0.
use mathlib.Core.Path.{◌∙◌}
use Rattle.rules.specs.Step.{reading}
use Rattle.record.proofs.Depths.{board_same}
use Rattle.board.proofs.steps.register.Goals as goal

pub returns-in-Read : goal.returns-in-Read
unfolding reading
returns-in-Read c =
    let h = c.requires (rw c.in-Read.is tt) in
    rw c.in-Read.is (c.register_at.ensures.told ∙ rw (board_same c.args.b h))
