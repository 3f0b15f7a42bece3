-- The promise of a function that tells what a rule says, where that is an enum: `ToldInNumbers numbers x r`, its answer r is x, and so are
-- its numbers. 01: "For an answer that is an enum, a definition provides this paper's number and values for each of the enum's cases. The
-- promises use this definition." `numbers` is that definition.
use Rattle.std.specs.Prelude.{◌≡◌}

pub record ToldInNumbers {A N : Type 0} (numbers : A → N) (x r : A) : Type 0 where
  pub told : r ≡ x
  pub in_numbers : numbers r ≡ numbers x

-- Any two answers that it allows are equal. The proof is in proofs/Equal.antt.
abbrev pub ToldInNumbers-unique : Type 1
ToldInNumbers-unique = (A N : Type 0) (numbers : A → N) (x r r' : A) → ToldInNumbers numbers x r → ToldInNumbers numbers x r' → r ≡ r'
