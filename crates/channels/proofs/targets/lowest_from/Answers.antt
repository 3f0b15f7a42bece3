-- The zeros of the mask from k up lead to the first active channel (`Cursor-zeros` of `laws`), if that is below 20.
use Prim.Native.Nat.{◌+◌, ◌/◌, ◌^◌, ◌≤◌}
use mathlib.Core.Path.{sym, ◌∙◌}
use native.Mathlib.Nat.{min-eq_left}
use native.Mathlib.Omega.{arith}
use lib.Count.{count_trailing_zeros, trailing_le}
use Rattle.laws.proofs.Search.{cursor_zeros}
use Rattle.channels.proofs.Heads.{head_none}
use Rattle.channels.proofs.targets.lowest_from.Goals as goal

pub overflow_add-at : goal.overflow_add-at
overflow_add-at c = omega (arith, trailing_le 32 (c.args.mask / 2 ^ c.args.k), c.requires)

pub returns-then-fitted : goal.returns-then-fitted
returns-then-fitted c =
    let a = c.args in
    (sym (cursor_zeros a.k a.mask c.requires ∙ min-eq_left (omega arith)), omega arith)

pub returns-else-fitted : goal.returns-else-fitted
returns-else-fitted c =
    let a = c.args in
    let past : 20 ≤ a.k + count_trailing_zeros 32 (a.mask / 2 ^ a.k) = omega arith in
    head_none a.k a.mask c.requires (omega (arith, cursor_zeros a.k a.mask c.requires, past))
