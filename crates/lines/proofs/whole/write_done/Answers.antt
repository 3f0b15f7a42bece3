-- `write_done` meets its contract: its constant part is that of a refusal and a register of 0.
use Prim.Native.Nat.{◌+◌, ◌≤◌}
use native.Mathlib.Omega.{arith}
use lib.ListN.{length}
use Rattle.file_rules.proofs.Joined.{piece_length, room_after}
use Rattle.listing_rules.proofs.Numbers.{decimal_long}
use Rattle.lines.proofs.LineParts.{done_joined}
use Rattle.lines.proofs.whole.write_done.Goals as goal

pub put_bytes-s-requires : goal.put_bytes-s-requires
put_bytes-s-requires c =
    let after_number : c.put_long-p.result + 54 ≤ length c.put_long-p.new.out = room_after 10 54 c.requires c.put_long-p.ensures (decimal_long 9 _) in
    omega (arith, after_number)

pub put_rest-requires : goal.put_rest-requires
put_rest-requires c =
    let after_number : c.put_long-p.result + 54 ≤ length c.put_long-p.new.out = room_after 10 54 c.requires c.put_long-p.ensures (decimal_long 9 _) in
    omega (arith, room_after 11 43 after_number c.put_bytes-s.ensures (omega arith))

pub returns : goal.returns
returns c =
    let args = c.args in
    done_joined args.number args.moved args.fate args.count
    c.put_long-p.ensures
    c.put_bytes-s.ensures
    c.put_rest.ensures

pub shape_of-out : goal.shape_of-out
shape_of-out c = piece_length (returns c)
