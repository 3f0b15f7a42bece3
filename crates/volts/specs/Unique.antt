-- Any two outcomes that a promise allows are equal. The proofs are in proofs/.
use Rattle.std.specs.Prelude.{ℕ, ◌≡◌, List, Float, Result}
use Rattle.volt_rules.specs.declared.Extremes.{Extremes}
use Rattle.volts.specs.declared.refusal.VoltRefusal.{VoltRefusal}
use Rattle.volts.specs.Numbered.{Table, table_of}
use Rattle.volts.specs.Promises.{Tabled, VoltsCalled}

abbrev pub Tabled-unique : Type 0
Tabled-unique = (s m : List ℕ) (r r' : Table) (n n' : List ℕ) → Tabled s m r n → Tabled s m r' n' → (r ≡ r') × (n ≡ n')

abbrev pub VoltsCalled-unique : Type 0
VoltsCalled-unique =
    (s m : List ℕ) (n n' : ℕ) (o o' : List ℕ) (v v' : List Float)
    → VoltsCalled s m n o v
    → VoltsCalled s m n' o' v'
    → (n ≡ n') × (o ≡ o') × (v ≡ v')

-- and two outcomes with the same numbers are one
abbrev pub Table-unique : Type 0
Table-unique = (r r' : Result (List Extremes) VoltRefusal) → table_of r ≡ table_of r' → r ≡ r'
