-- Where no byte is left to write, none is written.
use Prim.Native.Nat.{ℕ}
use mathlib.Core.Path.{◌≡◌, refl, sym}
use mathlib.Core.List.{List, []}
use native.Mathlib.Omega.{arith}
use Rattle.file_rules.specs.Pieces.{Piece}
use Rattle.file_rules.proofs.Joined.{renamed}

pub none_left : {out xs : List ℕ} {at : ℕ} → xs ≡ [] → Piece out at xs out at
none_left e = renamed (sym e) (record { place = omega arith; text = refl })
