-- A piece of bytes written into an output from a place on.
use Rattle.std.specs.Prelude.{ℕ, ◌+◌, ◌≡◌, List, length}
use Rattle.std.proofs.lemmas.List.Edits.{sets}

-- `next` is the place after it; every other byte is as it was
pub record Piece (out : List ℕ) (at : ℕ) (piece : List ℕ) (out' : List ℕ) (next : ℕ) : Type 0 where
  pub place : next ≡ at + length piece
  pub text : out' ≡ sets out at piece
