-- `put_line` asks whether the longest line fits: if not it leaves all as it was, and else what it writes is the promised piece.
use Rattle.file_rules.proofs.Joined.{piece_length}
use Rattle.lines.proofs.Printing.{has_room, printed, unprinted}
use Rattle.lines.proofs.put_line.Goals as goal

pub returns-then-not-has_room : goal.returns-then-not-has_room
returns-then-not-has_room c = unprinted _ _ _ c.has_room.ensures c.if-not-has_room.true

pub write_line-requires : goal.write_line-requires
write_line-requires c = has_room _ _ _ c.has_room.ensures c.if-not-has_room.false

pub shape_of-out : goal.shape_of-out
shape_of-out c = piece_length c.write_line.ensures

pub returns : goal.returns
returns c =
    printed _ _ _ c.has_room.ensures c.if-not-has_room.false c.write_line.ensures
