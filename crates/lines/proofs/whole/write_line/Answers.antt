-- `write_line` meets its contract: its pieces are the line, and after each there is room for the rest.
use Prim.Native.Nat.{◌+◌, ◌≤◌}
use native.Mathlib.Omega.{arith}
use lib.ListN.{length}
use Rattle.file_rules.proofs.Joined.{piece_length, room_after}
use Rattle.listing_rules.proofs.Numbers.{decimal_long, field_long, hex_long}
use Rattle.lines.specs.Answers.{answer_in}
use Rattle.lines.proofs.LineParts.{line_joined}
use Rattle.lines.proofs.whole.write_line.Goals as goal

pub put_field-q-requires : goal.put_field-q-requires
put_field-q-requires c =
    let after_number : c.put_long-p.result + 54 ≤ length c.put_long-p.new.out = room_after 10 54 c.requires c.put_long-p.ensures (decimal_long 9 _) in
    omega (arith, after_number)

pub put_byte-r-requires : goal.put_byte-r-requires
put_byte-r-requires c =
    let after_number : c.put_long-p.result + 54 ≤ length c.put_long-p.new.out = room_after 10 54 c.requires c.put_long-p.ensures (decimal_long 9 _) in
    let after_refusal : c.put_field-q.result + 43 ≤ length c.put_field-q.new.out = room_after 11 43 after_number c.put_field-q.ensures (field_long _) in
    omega (arith, after_refusal)

pub put_register-s-requires : goal.put_register-s-requires
put_register-s-requires c =
    let after_number : c.put_long-p.result + 54 ≤ length c.put_long-p.new.out = room_after 10 54 c.requires c.put_long-p.ensures (decimal_long 9 _) in
    let after_refusal : c.put_field-q.result + 43 ≤ length c.put_field-q.new.out = room_after 11 43 after_number c.put_field-q.ensures (field_long _) in
    let after_space : c.put_byte-r.result + 42 ≤ length c.put_byte-r.new.out = room_after 1 42 after_refusal c.put_byte-r.ensures (omega arith) in
    omega (arith, after_space)

pub put_rest-requires : goal.put_rest-requires
put_rest-requires c =
    let after_number : c.put_long-p.result + 54 ≤ length c.put_long-p.new.out = room_after 10 54 c.requires c.put_long-p.ensures (decimal_long 9 _) in
    let after_refusal : c.put_field-q.result + 43 ≤ length c.put_field-q.new.out = room_after 11 43 after_number c.put_field-q.ensures (field_long _) in
    let after_space : c.put_byte-r.result + 42 ≤ length c.put_byte-r.new.out = room_after 1 42 after_refusal c.put_byte-r.ensures (omega arith) in
    let after_register : c.put_register-s.result + 34 ≤ length c.put_register-s.new.out = room_after 8 34 after_space c.put_register-s.ensures (rw hex_long (omega arith)) in
    omega (arith, after_register)

pub returns : goal.returns
returns c =
    let args = c.args in
    line_joined args.number (answer_in args.a) args.count
    c.put_long-p.ensures
    c.put_field-q.ensures
    c.put_byte-r.ensures
    c.put_register-s.ensures
    c.put_rest.ensures

pub shape_of-out : goal.shape_of-out
shape_of-out c = piece_length (returns c)
