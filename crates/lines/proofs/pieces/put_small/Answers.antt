-- `put_small` meets its contract: the digits before the last two, and these.
use native.Mathlib.Omega.{arith}
use Rattle.listing_rules.proofs.Numbers.{decimal_long, decimal_room}
use Rattle.lines.proofs.Digits.{decimal_two}
use Rattle.file_rules.proofs.Joined.{then, piece_length, room_after}
use Rattle.lines.proofs.pieces.put_small.Goals as goal

pub returns-then-n-lt100 : goal.returns-then-n-lt100
returns-then-n-lt100 c = rw (decimal_room 2 1 _ c.if-n-lt100.true) c.put_tens.ensures

pub shape_of-out-then-n-lt100 : goal.shape_of-out-then-n-lt100
shape_of-out-then-n-lt100 c = piece_length (returns-then-n-lt100 c)

pub put_two_digits-requires : goal.put_two_digits-requires
put_two_digits-requires c =
    (room_after 2 2 c.requires.0 c.put_tens-p.ensures (decimal_long 1 _), omega arith)

pub returns : goal.returns
returns c =
    rw (decimal_two 1 _ c.if-n-lt100.false) (then c.put_tens-p.ensures c.put_two_digits.ensures)

pub shape_of-out : goal.shape_of-out
shape_of-out c = piece_length (returns c)
