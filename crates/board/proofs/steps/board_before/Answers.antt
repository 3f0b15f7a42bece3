-- Each part is what its function ensures.
use Rattle.board.proofs.steps.board_before.Goals as goal

pub returns : goal.returns
returns c =
    let p = c.args.p in
    λ i. record { core = p.core; size = c.size_after.ensures.told i; request = c.request_held.ensures.told i; ring = p.ring }
