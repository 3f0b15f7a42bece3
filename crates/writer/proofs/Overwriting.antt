-- A part of an output that is written over is a piece.
use Prim.Native.Nat.{ℕ, ◌+◌, ◌≤◌}
use mathlib.Core.Path.{◌≡◌, refl, sym, ◌∙◌}
use mathlib.Core.List.{List, append_assoc}
use lib.ListN.{length, take, drop}
use borrow.Rule.Slice.PartMut.{put_mid}
use Rattle.std.proofs.lemmas.List.Edits.{sets-eq, paste_all}
use Rattle.std.proofs.lemmas.Slice.{put_mid-paste}
use Rattle.file_rules.specs.Pieces.{Piece}

pub piece_put : (out bs ys : List ℕ) (at k : ℕ) → at + length bs ≤ length out → k ≡ length bs → ys ≡ bs → Piece out at bs (put_mid at k out ys) (at + length bs)
piece_put out bs ys at k room e same =
    record {
      place = refl;
      text = put_mid-paste at k out ys bs (length bs) same (sym e) refl ∙ paste_all out at bs (length bs) refl
          ∙ sym (append_assoc (take at out) bs (drop (at + length bs) out)) ∙ sym (sets-eq bs out at room);
    }
