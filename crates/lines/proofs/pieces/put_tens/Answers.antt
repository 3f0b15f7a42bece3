-- `put_tens` meets its contract: one digit, or two.
use Rattle.listing_rules.proofs.Numbers.{decimal_one}
use Rattle.lines.proofs.Digits.{decimal_pair}
use Rattle.file_rules.proofs.Joined.{piece_length}
use Rattle.lines.proofs.pieces.put_tens.Goals as goal

pub returns-then-n-lt10 : goal.returns-then-n-lt10
returns-then-n-lt10 c = rw (decimal_one 1 _ c.if-n-lt10.true) c.put_digit.ensures

pub shape_of-out-then-n-lt10 : goal.shape_of-out-then-n-lt10
shape_of-out-then-n-lt10 c = piece_length (returns-then-n-lt10 c)

pub returns : goal.returns
returns c =
    rw (decimal_pair 0 _ c.if-n-lt10.false c.requires.1) c.put_two_digits.ensures

pub shape_of-out : goal.shape_of-out
shape_of-out c = piece_length (returns c)
