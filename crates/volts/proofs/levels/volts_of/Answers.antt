use Prim.Native.Nat.{ℕ, ◌-◌, ◌*◌, ◌≤◌}
use mathlib.Core.Path.{◌≡◌, ap, sym, subst}
use native.Mathlib.Omega.{arith}
use borrow.Author.Tests.{lt-ltb, le-ltb}
use lib.Ieee.{neg}
use Rattle.volt_rules.specs.Volts.{factor, volts_of}
use Rattle.volt_rules.proofs.Exact.{size_small}
use Rattle.volts.proofs.levels.volts_of.Goals as goal

-- the product fits, and has no more digits than an f32 keeps
small : (n k range : ℕ) → n ≤ 32768 → k ≡ factor range → n * k ≤ 655360
small n k range h e = subst (λ (x : ℕ). n * x ≤ 655360) (sym e) (size_small n range h)

pub overflow_mul-n : goal.overflow_mul-n
overflow_mul-n c = omega (arith, small (32768 - c.from-n.result) _ _ (omega arith) c.factor_of-k.ensures)

pub share_of-requires : goal.share_of-requires
share_of-requires c = omega (arith, small (32768 - c.from-n.result) _ _ (omega arith) c.factor_of-k.ensures)

pub returns-then-negative : goal.returns-then-negative
unfolding volts_of
returns-then-negative c =
    rw (sym c.from-n.ensures, lt-ltb c.from-n.result 32768 (omega (arith, c.if-negative.true)), sym c.factor_of-k.ensures) (ap neg c.share_of.ensures)

pub overflow_mul-n-2 : goal.overflow_mul-n-2
overflow_mul-n-2 c = omega (arith, small (c.from-n.result - 32768) _ _ (omega arith) c.factor_of-k.ensures)

pub share_of-requires-2 : goal.share_of-requires-2
share_of-requires-2 c = omega (arith, small (c.from-n.result - 32768) _ _ (omega arith) c.factor_of-k.ensures)

pub returns : goal.returns
unfolding volts_of
returns c = rw (sym c.from-n.ensures, le-ltb c.from-n.result 32768 (omega (arith, c.if-negative.false)), sym c.factor_of-k.ensures) c.share_of-2.ensures
