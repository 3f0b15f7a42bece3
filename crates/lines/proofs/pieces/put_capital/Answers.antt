-- `put_capital` meets its contract: `capital_of` says which byte it is.
use Rattle.file_rules.proofs.Joined.{piece_length}
use Rattle.lines.proofs.pieces.put_capital.Goals as goal

pub returns : goal.returns
returns c = rw c.capital_of.ensures at c.put_byte.ensures

pub shape_of-out : goal.shape_of-out
shape_of-out c = piece_length (returns c)
