-- `put_middle` meets its contract: the digits before the last four, and these.
use Rattle.listing_rules.proofs.Numbers.{decimal_four, decimal_long, decimal_room}
use Rattle.file_rules.proofs.Joined.{then, piece_length, room_after}
use Rattle.lines.proofs.pieces.put_middle.Goals as goal

pub returns-then-n-lt10000 : goal.returns-then-n-lt10000
returns-then-n-lt10000 c = rw (decimal_room 2 3 _ c.if-n-lt10000.true) c.put_small.ensures

pub shape_of-out-then-n-lt10000 : goal.shape_of-out-then-n-lt10000
shape_of-out-then-n-lt10000 c = piece_length (returns-then-n-lt10000 c)

pub put_four_digits-requires : goal.put_four_digits-requires
put_four_digits-requires c =
    room_after 2 4 c.requires.0 c.put_tens-p.ensures (decimal_long 1 _)

pub returns : goal.returns
returns c =
    rw (decimal_four 1 _ c.if-n-lt10000.false) (then c.put_tens-p.ensures c.put_four_digits.ensures)

pub shape_of-out : goal.shape_of-out
shape_of-out c = piece_length (returns c)
