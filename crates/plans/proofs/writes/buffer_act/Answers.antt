-- D11 outermost.
use Prim.Native.Nat.{◌/◌, ◌%◌}
use mathlib.Core.Logic.{◌≢◌}
use mathlib.Core.Path.{◌≡◌, refl, sym, ◌∙◌}
use native.Mathlib.Omega.{arith}
use borrow.Author.Tests.{eqb-true, eqb-false, ne_eqb}
use Rattle.plans.specs.Parts.{clocks_if, buffer_act}
use Rattle.plans.proofs.writes.buffer_act.Goals as goal

pub returns-then-empties : goal.returns-then-empties
unfolding buffer_act
returns-then-empties c =
    let d11 : c.args.v / 2048 % 2 ≡ 1 = omega (arith, eqb-true _ _ (sym c.bit-empties.ensures.told ∙ c.if-empties.true)) in
    rw d11 refl

pub returns-else-empties : goal.returns-else-empties
unfolding buffer_act clocks_if
returns-else-empties c =
    let d11 : c.args.v / 2048 % 2 ≢ 1 = omega (arith, eqb-false _ _ (sym c.bit-empties.ensures.told ∙ c.if-empties.false)) in
    rw (ne_eqb _ _ d11, c.clocks_if.ensures, c.bit.ensures.told) refl
