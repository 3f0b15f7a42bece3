-- `put` meets its contract: the bytes are one piece.
use Prim.Native.Nat.{◌+◌, ◌-◌}
use mathlib.Core.Path.{◌≡◌}
use native.Mathlib.Omega.{arith}
use borrow.Author.Rules.{rules}
use borrow.Rule.Slice.PartMut.{put_mid}
use lib.ListN.{length}
use Rattle.file_rules.specs.Pieces.{Piece}
use Rattle.writer.proofs.Overwriting.{piece_put}
use Rattle.writer.proofs.pieces.put.Goals as goal

pub returns : goal.returns
returns g c =
    let long : length c.args.bytes ≡ g.row.N = search rules in
    let p : Piece c.args.out.now c.args.at c.args.bytes (put_mid c.args.at (c.args.at + g.row.N - c.args.at) c.args.out.now c.copy_from_slice.new.self) (c.args.at + length c.args.bytes) =
    piece_put c.args.out.now c.args.bytes _ c.args.at _ (omega (arith, long, c.requires)) (omega (arith, long)) c.copy_from_slice.ensures.after in
    record { place = omega (arith, long); text = p.text }
