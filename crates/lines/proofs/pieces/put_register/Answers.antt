-- `put_register` meets its contract: 0 has eight digits 0, and any other number is written by fours.
use native.Mathlib.Omega.{arith}
use Rattle.listing_rules.specs.Text.{hex}
use Rattle.file_rules.proofs.Joined.{then, piece_length, room_after}
use Rattle.listing_rules.proofs.Numbers.{hex_long, hex_four}
use Rattle.lines.proofs.pieces.put_register.Goals as goal

pub returns-then-n-eq0 : goal.returns-then-n-eq0
unfolding hex
returns-then-n-eq0 c = rw c.if-n-eq0.true c.put_bytes.ensures

pub shape_of-out-then-n-eq0 : goal.shape_of-out-then-n-eq0
shape_of-out-then-n-eq0 c = piece_length (returns-then-n-eq0 c)

pub put_hex-requires : goal.put_hex-requires
put_hex-requires c =
    room_after 4 4 c.requires c.put_hex-p.ensures (rw hex_long (omega arith))

pub returns : goal.returns
returns c =
    rw (hex_four 4 c.args.n) (then c.put_hex-p.ensures c.put_hex.ensures)

pub shape_of-out : goal.shape_of-out
shape_of-out c = piece_length (returns c)
