-- `put_two_digits` meets its contract: what is left when the tens are taken away is the last digit.
use Prim.Native.Nat.{◌*◌, ◌-◌, ◌/◌, ◌%◌}
use mathlib.Core.Path.{◌≡◌}
use native.Mathlib.Omega.{arith}
use Rattle.file_rules.proofs.Joined.{then, piece_length}
use Rattle.lines.proofs.pieces.put_two_digits.Goals as goal

pub returns : goal.returns
returns c =
    let n = c.args.n in
    let ones : n - 10 * (n / 10) ≡ n % 10 = omega arith in
    then c.put_digit-p.ensures (rw ones at c.put_digit.ensures)

pub shape_of-out : goal.shape_of-out
shape_of-out c = piece_length (returns c)
