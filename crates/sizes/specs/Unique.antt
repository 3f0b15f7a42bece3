-- Any two outcomes that the promise allows are equal. The proofs are in proofs/.
use Rattle.std.specs.Prelude.{ℕ, ◌≡◌, List, Result}
use Rattle.sizes.specs.declared.refusal.SizeRefusal.{SizeRefusal}
use Rattle.sizes.specs.Numbered.{Smallest, smallest_of}
use Rattle.sizes.specs.Promises.{SizeNamed}

abbrev pub SizeNamed-unique : Type 0
SizeNamed-unique = (s m : List ℕ) (r r' : Smallest) (n n' : List ℕ) → SizeNamed s m r n → SizeNamed s m r' n' → (r ≡ r') × (n ≡ n')

-- and two outcomes with the same numbers are one
abbrev pub Smallest-unique : Type 0
Smallest-unique = (r r' : Result ℕ SizeRefusal) → smallest_of r ≡ smallest_of r' → r ≡ r'
