-- The promise of the public functions: it fixes the answer and every byte of the output.
use Rattle.std.specs.Prelude.{ℕ, ◌+◌, ◌≡◌, cond, List, leb, length}
use Rattle.std.proofs.lemmas.List.Edits.{sets}

-- Where the output has n bytes from the place on, the text stands there, `next` is the place after it, and every other byte is as it was.
-- Where it has not, nothing is written, and the place comes back.
pub record Printed (n : ℕ) (out : List ℕ) (at : ℕ) (text : List ℕ) (out' : List ℕ) (next : ℕ) : Type 0 where
  pub place : next ≡ cond (leb (at + n) (length out)) (at + length text) at
  pub output : out' ≡ cond (leb (at + n) (length out)) (sets out at text) out
