use mathlib.Core.Path.{◌∙◌}
use native.Mathlib.Omega.{arith}
use Rattle.listing_rules.specs.Listing.{listing}
use Rattle.file_rules.proofs.Joined.{then, piece_length}
use Rattle.lines.proofs.Printing.{printed_piece}
use Rattle.listing.proofs.Answers.{too_short, room_long, long_written, room_file, file_written}
use Rattle.listing.proofs.list.Goals as goal

pub returns-then-out-lt9 : goal.returns-then-out-lt9
returns-then-out-lt9 c =
    let a = c.args in
    too_short a.s.now a.memory.now a.out.now 9 (room_long a.s.now a.memory.now a.out.now c.if-too_long.true) c.if-out-lt9.true

pub returns-then-too_long : goal.returns-then-too_long
returns-then-too_long c =
    let a = c.args in
    let put = printed_piece c.put_text.ensures (omega (arith, c.if-out-lt9.false)) in
    long_written a.s.now a.memory.now a.out.now _ _ c.if-too_long.true c.if-out-lt9.false put

pub returns-then-short : goal.returns-then-short
returns-then-short c =
    let a = c.args in
    too_short a.s.now a.memory.now a.out.now _ (room_file a.s.now a.memory.now a.out.now c.if-too_long.false) c.if-short.true

pub put_body-requires : goal.put_body-requires
put_body-requires c =
    let head = printed_piece c.put_text-at.ensures (omega (arith, c.if-short.false)) in
    (c.if-too_long.false, omega (arith, c.if-short.false, head.place, piece_length head))

pub shape_of-out : goal.shape_of-out
shape_of-out c = c.put_body.auto.out ∙ c.put_text-at.auto.out

pub returns : goal.returns
unfolding listing
returns c =
    let b = c.put_body.ensures in
    let a = c.args in
    let head = printed_piece c.put_text-at.ensures (omega (arith, c.if-short.false)) in
    file_written a.s.now a.memory.now a.out.now _ _ _ c.if-too_long.false c.if-short.false (then head b.0, b.1)
