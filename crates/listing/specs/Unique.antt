-- Any two outcomes that a promise allows are equal. The proofs are in proofs/.
use Rattle.std.specs.Prelude.{ℕ, ◌≡◌, List, Result}
use Rattle.listing.specs.declared.ShortOutput.{ShortOutput}
use Rattle.listing.specs.Promises.{Lists, ListCalled}

abbrev pub Lists-unique : Type 0
Lists-unique =
    (s m out : List ℕ) (r r' : Result ℕ ShortOutput) (n n' o o' : List ℕ)
    → Lists s m out r n o
    → Lists s m out r' n' o'
    → (r ≡ r') × (n ≡ n') × (o ≡ o')

abbrev pub ListCalled-unique : Type 0
ListCalled-unique =
    (s m out : List ℕ) (r r' : ℕ) (n n' o o' : List ℕ)
    → ListCalled s m out r n o
    → ListCalled s m out r' n' o'
    → (r ≡ r') × (n ≡ n') × (o ≡ o')
