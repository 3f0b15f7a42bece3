-- A number that no kind has is below 1 or above 9.
use Prim.Native.Nat.{ℕ}
use mathlib.Core.Path.{◌≡◌, refl, sym, ap, ◌∙◌}
use mathlib.Core.Bool.{true, false}
use native.Mathlib.Omega.{arith}
use borrow.Author.Rules.{rules}
use Rattle.std.proofs.lemmas.Bool.Decides.{nat_tests}
use Rattle.rules.specs.declared.Signal.TheVariants.{Tick, Outside, Trigger, Passed, Failed, Settled}
use Rattle.file_rules.specs.File.{length_of}
use Rattle.kinds.specs.declared.Kind.{Kind}
use Rattle.kinds.specs.declared.Kind.TheVariants.{PowerUp, Write, Read, Signal}
use Rattle.kinds.specs.Numbers.{kind_number}
use Rattle.bridge.specs.Calls.{no_kind}
use Rattle.bridge.proofs.events.row_event.Goals as goal

unknown : (n : ℕ) → length_of n ≡ 0 → no_kind n ≡ true
unfolding length_of
unknown n h = grind (arith, nat_tests)

known : (k : Kind) → no_kind (kind_number k) ≡ false
known PowerUp = refl
known Write = refl
known Read = refl
known (Signal Tick) = refl
known (Signal Outside) = refl
known (Signal Trigger) = refl
known (Signal Passed) = refl
known (Signal Failed) = refl
known (Signal Settled) = refl

pub returns-in_err-kind : goal.returns-in_err-kind
returns-in_err-kind c = let none = unknown _ c.in_err-kind.ensures in search rules

pub returns : goal.returns
returns c = (ap no_kind (sym c.in_ok-kind.ensures) ∙ known c.in_ok-kind.kind, c.event_of.ensures)
