-- `put_four_digits` meets its contract: its two pairs are the last four digits.
use Rattle.lines.proofs.Digits.{two_pairs}
use Rattle.file_rules.proofs.Joined.{then, renamed, piece_length}
use Rattle.lines.proofs.pieces.put_four_digits.Goals as goal

pub returns : goal.returns
returns c =
    renamed (two_pairs c.args.n) (then c.put_two_digits-p.ensures c.put_two_digits.ensures)

pub shape_of-out : goal.shape_of-out
shape_of-out c = piece_length (returns c)
