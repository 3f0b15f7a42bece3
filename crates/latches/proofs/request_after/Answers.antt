use mathlib.Core.Path.{◌≡◌, sym, ◌∙◌}
use native.Mathlib.Omega.{arith}
use borrow.Author.Tests.{eq-eqb}
use Rattle.rules.specs.Interrupt.{request_after}
use Rattle.latches.proofs.request_after.Goals as goal

pub returns-then-b-a : goal.returns-then-b-a
unfolding request_after
returns-then-b-a c =
    let g = c.args in
    let unchanged : g.b.core.control.selection ≡ g.a.core.control.selection = omega (arith, c.if-b-a.true) in
    record { told = rw (sym c.initialises.ensures.told ∙ c.if-initialises.false, eq-eqb _ _ unchanged, c.edge.ensures, c.condition-then-b-a.ensures.told, c.condition.ensures.told) }
