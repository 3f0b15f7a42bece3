-- `put_hex` meets its contract: its four digits are one piece.
use Rattle.listing_rules.specs.Text.{hex}
use Rattle.file_rules.proofs.Joined.{then, piece_length}
use Rattle.lines.proofs.pieces.put_hex.Goals as goal

pub returns : goal.returns
unfolding hex
returns c =
    let two = then c.put_capital-a.ensures c.put_capital-b.ensures in
    then (then two c.put_capital-c.ensures) c.put_capital.ensures

pub shape_of-out : goal.shape_of-out
shape_of-out c = piece_length (returns c)
