-- The promise of the public functions, by what `has_room` answered: a piece where there is room, and where there is none nothing.
use Prim.Native.Nat.{ℕ, ◌+◌, ◌≤◌}
use mathlib.Core.Path.{◌≡◌, sym, ◌∙◌}
use mathlib.Core.Bool.{Bool, true, false}
use mathlib.Core.List.{List}
use lib.Dec.{leb}
use lib.ListN.{length}
use borrow.Author.Tests.{leb-true, le-leb}
use Rattle.rules.proofs.Choice.{cond_true, cond_false}
use Rattle.file_rules.specs.Pieces.{Piece}
use Rattle.lines.specs.Promises.{Printed}

-- `size` is a number of its own, so that it need not be written where the function that writes is called
module _ (n size at : ℕ) {t : Bool} (told : t ≡ leb (at + n) size) (h : t ≡ true) where
  leb_told : leb (at + n) size ≡ true
  leb_told = sym told ∙ h

  pub has_room : at + n ≤ size
  has_room = leb-true (at + n) size leb_told

module _ (n : ℕ) (out : List ℕ) (at : ℕ) {text : List ℕ} {t : Bool} (told : t ≡ leb (at + n) (length out)) where
  pub printed : t ≡ true → {out' : List ℕ} {next : ℕ} → Piece out at text out' next → Printed n out at text out' next
  printed h a =
      let fits = leb_told n (length out) at told h in
      record { place = a.place ∙ sym (cond_true _ _ _ fits); output = a.text ∙ sym (cond_true _ _ _ fits) }

  pub unprinted : t ≡ false → Printed n out at text out at
  unprinted h =
      let short = sym told ∙ h in
      record { place = sym (cond_false _ _ _ short); output = sym (cond_false _ _ _ short) }

-- what a public function promises is a piece where there is room
pub printed_piece : {n at p : ℕ} {o o1 xs : List ℕ} → Printed n o at xs o1 p → at + n ≤ length o → Piece o at xs o1 p
printed_piece a h =
    let fits = le-leb _ _ h in
    record { place = a.place ∙ cond_true _ _ _ fits; text = a.output ∙ cond_true _ _ _ fits }
