-- `write_file` meets its contract: its pieces are the line, and after each there is room for the rest.
use Prim.Native.Nat.{◌+◌, ◌≤◌}
use native.Mathlib.Omega.{arith}
use lib.ListN.{length}
use Rattle.listing_rules.specs.Text.{file_line}
use Rattle.file_rules.proofs.Joined.{then, piece_length, room_after}
use Rattle.listing_rules.proofs.Numbers.{decimal_long, field_long}
use Rattle.lines.proofs.whole.write_file.Goals as goal

pub put_field-c-requires : goal.put_field-c-requires
put_field-c-requires c =
    let after_text : c.put_bytes-a.result + 22 ≤ length c.put_bytes-a.new.out = room_after 5 22 c.requires c.put_bytes-a.ensures (omega arith) in
    let after_decimal : c.put_decimal-b.result + 12 ≤ length c.put_decimal-b.new.out = room_after 10 12 after_text c.put_decimal-b.ensures (decimal_long 9 _) in
    omega (arith, after_decimal)

pub put_byte-requires : goal.put_byte-requires
put_byte-requires c =
    let after_text : c.put_bytes-a.result + 22 ≤ length c.put_bytes-a.new.out = room_after 5 22 c.requires c.put_bytes-a.ensures (omega arith) in
    let after_decimal : c.put_decimal-b.result + 12 ≤ length c.put_decimal-b.new.out = room_after 10 12 after_text c.put_decimal-b.ensures (decimal_long 9 _) in
    let after_field : c.put_field-c.result + 1 ≤ length c.put_field-c.new.out = room_after 11 1 after_decimal c.put_field-c.ensures (field_long _) in
    omega (arith, after_field)

pub returns : goal.returns
unfolding file_line
returns c =
    let two = then c.put_bytes-a.ensures c.put_decimal-b.ensures in
    then (then two c.put_field-c.ensures) c.put_byte.ensures

pub shape_of-out : goal.shape_of-out
shape_of-out c = piece_length (returns c)
