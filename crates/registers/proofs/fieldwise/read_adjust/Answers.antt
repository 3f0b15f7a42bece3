-- ALT is the bit above Nclk.
use Prim.Native.Nat.{ℕ, ◌+◌, ◌*◌, ◌%◌}
use mathlib.Core.Path.{◌≡◌, refl}
use mathlib.Core.Bool.{Bool, true, false}
use native.Mathlib.Omega.{arith}
use mir.Val.{bool_byte}
use Rattle.rules.specs.declared.Board.{Board}
use Rattle.rules.specs.Registers.{read_at}
use Rattle.rules.proofs.Registers.{fields_read}
use Rattle.record.specs.Capped.{capped_board}
use Rattle.registers.proofs.fieldwise.read_adjust.Goals as goal

by_alt : (b : Board) (t : Bool) (x : ℕ) → b.core.clock.alt ≡ t → x ≡ bool_byte t
    → b.core.clock.nclk % 512 + 512 * x ≡ read_at (capped_board b) 0x1C
by_alt b true x e p = omega (arith, p, (fields_read (capped_board b)).alternate e)
by_alt b false x e p = omega (arith, p, (fields_read (capped_board b)).adjust e)

pub returns : goal.returns
returns c = by_alt c.args.b _ _ refl c.from.ensures
