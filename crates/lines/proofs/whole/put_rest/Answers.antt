-- `put_rest` meets its contract: its pieces are one, and after each there is room for the rest.
use Prim.Native.Nat.{◌+◌, ◌≤◌}
use native.Mathlib.Omega.{arith}
use lib.ListN.{length}
use Rattle.file_rules.proofs.Joined.{then, piece_length, room_after}
use Rattle.listing_rules.proofs.Numbers.{field_long}
use Rattle.lines.proofs.whole.put_rest.Goals as goal

pub put_field-u-requires : goal.put_field-u-requires
put_field-u-requires c =
    let after_moved : c.put_field-t.result + 23 ≤ length c.put_field-t.new.out = room_after 11 23 c.requires c.put_field-t.ensures (field_long _) in
    omega (arith, after_moved)

pub put_field-v-requires : goal.put_field-v-requires
put_field-v-requires c =
    let after_moved : c.put_field-t.result + 23 ≤ length c.put_field-t.new.out = room_after 11 23 c.requires c.put_field-t.ensures (field_long _) in
    let after_fate : c.put_field-u.result + 12 ≤ length c.put_field-u.new.out = room_after 11 12 after_moved c.put_field-u.ensures (field_long _) in
    omega (arith, after_fate)

pub put_byte-requires : goal.put_byte-requires
put_byte-requires c =
    let after_moved : c.put_field-t.result + 23 ≤ length c.put_field-t.new.out = room_after 11 23 c.requires c.put_field-t.ensures (field_long _) in
    let after_fate : c.put_field-u.result + 12 ≤ length c.put_field-u.new.out = room_after 11 12 after_moved c.put_field-u.ensures (field_long _) in
    let after_count : c.put_field-v.result + 1 ≤ length c.put_field-v.new.out = room_after 11 1 after_fate c.put_field-v.ensures (field_long _) in
    omega (arith, after_count)

pub returns : goal.returns
returns c =
    let two = then c.put_field-t.ensures c.put_field-u.ensures in
    then (then two c.put_field-v.ensures) c.put_byte.ensures

pub shape_of-out : goal.shape_of-out
shape_of-out c = piece_length (returns c)
