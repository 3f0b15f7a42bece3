-- Any two outcomes that a promise allows are equal. The proofs are in proofs/.
use Rattle.std.specs.Prelude.{ℕ, ◌≡◌, List, Result}
use Rattle.cut_rules.specs.Cut.{Cut}
use Rattle.writer.specs.declared.refusal.WriteRefusal.{WriteRefusal}
use Rattle.writer.specs.Written.{Written, written_of}
use Rattle.writer.specs.Promises.{Writes, Cuts}

abbrev pub Writes-unique : Type 0
Writes-unique =
    (xs out : List ℕ) (place : ℕ) (r r' : Written) (o o' : List ℕ)
    → Writes xs out place r o
    → Writes xs out place r' o'
    → (r ≡ r') × (o ≡ o')

abbrev pub Cuts-unique : Type 0
Cuts-unique =
    (q : Cut) (out : List ℕ) (place : ℕ) (r r' : Written) (o o' : List ℕ)
    → Cuts q out place r o
    → Cuts q out place r' o'
    → (r ≡ r') × (o ≡ o')

-- and two outcomes with the same numbers are one
abbrev pub Written-unique : Type 0
Written-unique = (r r' : Result ℕ WriteRefusal) → written_of r ≡ written_of r' → r ≡ r'
