-- Above D31 nothing is left of a value of 32 bits.
use Prim.Native.Nat.{ℕ, ◌/◌, ◌%◌, ◌^◌, ◌≤◌}
use mathlib.Core.Path.{◌≡◌, sym, ap, ◌∙◌}
use native.Mathlib.Nat.{div-eq_of_lt}
use native.Mathlib.Omega.{arith}
use borrow.Author.Tests.{le-ltb}
use lib.Dec.{eqb}
use lib.Pow.{pow_mono}
use Rattle.status.proofs.bits.bit.Goals as goal

pub returns-else-within : goal.returns-else-within
returns-else-within c =
    let a = c.args in
    let high : 32 ≤ a.k = omega (arith, c.if-within.false) in
    let p : 2 ^ 32 ≤ 2 ^ a.k = pow_mono high in
    let none : a.v / 2 ^ a.k ≡ 0 = div-eq_of_lt (omega (arith, p, c.ranges.v.fits)) in
    record { told = le-ltb a.k _ c.if-within.false ∙ sym (ap (λ (n : ℕ). eqb (n % 2) 1) none) }
