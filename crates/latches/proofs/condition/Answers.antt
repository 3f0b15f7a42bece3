use Prim.Native.Nat.{ℕ}
use mathlib.Core.Path.{sym, ap, ◌∙◌}
use mathlib.Core.Bool.{false, not}
use lib.ListN.{get_or}
use Rattle.rules.specs.Interrupt.{condition, conditions}
use Rattle.record.specs.Capped.{capped_board}
use Rattle.latches.proofs.condition.Goals as goal

pub returns-in-1 : goal.returns-in-1
unfolding condition conditions
returns-in-1 c = record { told = sym (ap (λ (k : ℕ). get_or (conditions (capped_board c.args.b)) k false) c.in-1.is) }

pub returns-in-6 : goal.returns-in-6
unfolding condition conditions
returns-in-6 c =
    record { told = ap not c.closed.ensures.told ∙ sym (ap (λ (k : ℕ). get_or (conditions (capped_board c.args.b)) k false) c.in-6.is) }
