-- The head of the list, and its tail.
use Prim.Native.Nat.{ℕ}
use mathlib.Core.Path.{◌≡◌, sym, ap, ◌∙◌}
use native.Mathlib.Omega.{arith}
use lib.ListN.{length}
use Rattle.rules.specs.Bits.{active_from}
use Rattle.channels.proofs.Ones.{no_channels, lowest_taken}
use Rattle.channels.proofs.ascending.ActiveChannelsIterator.next.Goals as goal

pub returns-then-none-clause-steps : goal.returns-then-none-clause-steps
returns-then-none-clause-steps c =
    let zero : c.self.inside.waiting ≡ 0 = omega (arith, c.if-none.true) in
    let none = sym c.self.view_is ∙ ap (active_from 0) zero ∙ no_channels in
    (none, none)

pub returns-clause-steps : goal.returns-clause-steps
returns-clause-steps c = sym c.self.view_is ∙ lowest_taken _ (omega arith) c.self.invariant

pub returns-clause-goes : goal.returns-clause-goes
returns-clause-goes c =
    let fewer = ap (length {A = ℕ}) (returns-clause-steps c) in
    record { on = λ _. (tt, tt, omega (arith, fewer)); keeps = tt; rests = λ _. tt }
