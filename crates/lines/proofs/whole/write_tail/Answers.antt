-- `write_tail` meets its contract: its test is that of `tail`, and after the longest line of a refusal there is room for the levels.
use Rattle.listing_rules.proofs.Lengths.{file_line_length}
use Rattle.file_rules.proofs.Joined.{then, renamed, piece_length, room_after}
use Rattle.lines.proofs.LineParts.{tail_plain, tail_refused}
use Rattle.lines.proofs.whole.write_tail.Goals as goal

pub returns-then-unrefused : goal.returns-then-unrefused
returns-then-unrefused c = renamed (tail_plain _ _ _ c.if-unrefused.true) c.write_levels.ensures

pub shape_of-out-then-unrefused : goal.shape_of-out-then-unrefused
shape_of-out-then-unrefused c = piece_length (returns-then-unrefused c)

pub write_levels-requires-2 : goal.write_levels-requires-2
write_levels-requires-2 c =
    room_after 27 107 c.requires c.write_file-q.ensures (file_line_length _ _)

pub returns : goal.returns
returns c =
    renamed (tail_refused _ _ _ c.if-unrefused.false)
    (then c.write_file-q.ensures c.write_levels-2.ensures)

pub shape_of-out : goal.shape_of-out
shape_of-out c = piece_length (returns c)
