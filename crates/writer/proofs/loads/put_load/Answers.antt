-- `put_load` meets its contract: the mark is on the load whose record ends the session.
use Prim.Native.Nat.{ℕ}
use mathlib.Core.Path.{ap, ◌∙◌}
use native.Mathlib.Omega.{arith}
use Rattle.rules.specs.declared.Event.TheVariants.{Write as write}
use Rattle.file_rules.specs.Bytes.{bytes_of}
use Rattle.file_rules.proofs.Joined.{renamed}
use Rattle.writer.proofs.Marks.{last_load, other_load}
use Rattle.writer.proofs.loads.put_load.Goals as goal

pub returns-then-is_last : goal.returns-then-is_last
returns-then-is_last c =
    let a = c.args in
    renamed (last_load a.end a.at a.value (omega (arith, c.if-is_last.true))) c.put_last.ensures

pub returns : goal.returns
returns c =
    let a = c.args in
    renamed
    (ap (λ (n : ℕ). bytes_of (write 0x18 n)) c.from.ensures ∙ other_load a.end a.at a.value (λ e. omega (arith, c.if-is_last.false, e)))
    c.put_write.ensures
