-- A record that is told by its bytes is the one that stands there; any other is read.
use native.Mathlib.Omega.{arith}
use Rattle.session.proofs.Commonest.{tick_ahead, load_ahead}
use Rattle.session.proofs.item_at.Goals as goal

pub returns-in-0 : goal.returns-in-0
returns-in-0 c = tick_ahead _ _ _ c.ahead-rest.ensures c.in-0.len_at_least (omega arith) (omega arith) (omega arith)

pub returns-in-0-rest : goal.returns-in-0-rest
returns-in-0-rest c =
    load_ahead _ _ _ _ c.ahead-rest.ensures c.in-0-rest.len_at_least (omega arith) (omega arith) (omega arith) (omega arith) (omega arith)
