-- Every active channel, or the mask of the next one alone.
use Prim.Native.Nat.{ℕ, ◌%◌, ◌^◌}
use mathlib.Core.Path.{sym, ap, ◌∙◌}
use native.Mathlib.Nat.{mod-eq_of_lt, one-mul}
use native.Mathlib.Omega.{arith}
use lib.Pow.{pow-lt}
use Rattle.rules.proofs.Choice.{cond_true, cond_false}
use Rattle.channels.specs.Serving.{served_by}
use Rattle.channels.proofs.targets.served.Goals as goal

pub returns-then-c : goal.returns-then-c
unfolding served_by
returns-then-c c = sym (cond_true _ _ _ c.if-c.true)

pub returns-else-c : goal.returns-else-c
unfolding served_by
returns-else-c c =
    let n = c.next_channel.ensures in
    ap (λ (x : ℕ). x % 2 ^ 32) (one-mul _) ∙ mod-eq_of_lt (pow-lt {j = 32} (omega (arith, n.1)))
    ∙ ap (λ (k : ℕ). 2 ^ k) n.0
    ∙ sym (cond_false _ _ _ c.if-c.false)
