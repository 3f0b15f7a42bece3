-- The promise of a function that tells what a rule says: `Told x r`, its answer r is x, whatever it was asked with.
use Rattle.std.specs.Prelude.{◌≡◌}

pub record Told {A : Type 0} (x r : A) : Type 0 where
  pub told : r ≡ x

-- Any two answers that it allows are equal. The proof is in proofs/Equal.antt.
abbrev pub Told-unique : Type 1
Told-unique = (A : Type 0) (x r r' : A) → Told x r → Told x r' → r ≡ r'
