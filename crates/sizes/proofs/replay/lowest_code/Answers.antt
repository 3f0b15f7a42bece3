use native.Mathlib.Omega.{arith}
use Rattle.sizes.proofs.Searching.{trying_start, trying_on, trying_found, trying_none}
use Rattle.sizes.proofs.replay.lowest_code.Goals as goal

pub loop-code-init : goal.loop-code-init
loop-code-init c = trying_start _ _

pub returns-then-replay : goal.returns-then-replay
returns-then-replay c =
    trying_found c.loop-code.invariant _ _ (omega (arith, c.loop-code-test.true)) c.replay.ensures c.if-replay.true

pub loop-code-preserved : goal.loop-code-preserved
loop-code-preserved c =
    trying_on c.loop-code.invariant _ _ (omega (arith, c.loop-code-test.true)) c.replay.ensures c.if-replay.false c.replay.auto.memory

pub returns : goal.returns
returns c = trying_none c.loop-code.invariant (omega (arith, c.loop-code-test.false))
