-- The fields' laws of the rules say what is read at 04h and 08h; at an offset that is none of the six the map has no bits.
use Prim.Native.Nat.{ℕ}
use mathlib.Core.Path.{sym}
use mathlib.Core.Logic.{◌≢◌}
use native.Mathlib.Omega.{arith}
use borrow.Author.Tests.{ne_eqb}
use lib.Dec.{eqb}
use Rattle.rules.specs.Bits.{number}
use Rattle.rules.specs.Registers.{registers, read_from}
use Rattle.rules.proofs.Registers.{fields_read}
use Rattle.rules.proofs.Choice.{cond_same}
use Rattle.record.specs.Capped.{capped_board}
use Rattle.registers.proofs.fieldwise.read_fields.Goals as goal

pub returns-in-4 : goal.returns-in-4
returns-in-4 c = λ h k. rw c.in-4.is (sym (fields_read (capped_board c.args.b)).mask)

pub returns-in-8 : goal.returns-in-8
returns-in-8 c = λ h k. rw c.in-8.is (sym (fields_read (capped_board c.args.b)).rate)

pub returns-in_default : goal.returns-in_default
unfolding registers read_from number
returns-in_default c =
    λ h k.
    let o = c.args.o in
    let other : (o ≢ 4) × (o ≢ 8) × (o ≢ 16) × (o ≢ 28) = (omega arith, omega arith, omega arith, omega arith) in
    rw (ne_eqb o _ h, ne_eqb o _ k, ne_eqb o _ other.0, ne_eqb o _ other.1, ne_eqb o _ other.2, ne_eqb o _ other.3, cond_same {A = ℕ} (eqb o 0x18) 0, cond_same {A = ℕ} (eqb o 0x14) 0)
