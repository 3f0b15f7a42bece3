-- Any two outcomes that the promise allows are equal.
use Rattle.std.specs.Prelude.{ℕ, ◌≡◌, List}
use Rattle.lines.specs.Promises.{Printed}

abbrev pub Printed-unique : Type 0
Printed-unique =
    (n : ℕ) (out : List ℕ) (at : ℕ) (text : List ℕ) (r r' : ℕ) (o o' : List ℕ)
    → Printed n out at text o r
    → Printed n out at text o' r'
    → (r ≡ r') × (o ≡ o')
