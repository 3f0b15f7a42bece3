-- `put_field` meets its contract: its two pieces are one.
use Rattle.file_rules.proofs.Joined.{then, piece_length}
use Rattle.lines.proofs.whole.put_field.Goals as goal

pub returns : goal.returns
returns c = then c.put_byte-p.ensures c.put_decimal.ensures

pub shape_of-out : goal.shape_of-out
shape_of-out c = piece_length (returns c)
