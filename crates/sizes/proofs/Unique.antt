-- The promise says what every part of the outcome equals: two that do are equal. And no two outcomes have the same numbers.
use Prim.Native.Nat.{ℕ}
use mathlib.Core.Path.{◌≡◌, refl, sym, ap, ◌∙◌}
use lib.Dec.{eqb}
use Rattle.std.specs.Prelude.{Result, Ok, Err, cond}
use Rattle.rules.proofs.Equal.{determined}
use Rattle.file_rules.specs.declared.Fault.TheVariants.{Version, Cut, Length, Kind}
use Rattle.file_rules.specs.File.{fault_number}
use Rattle.sizes.specs.declared.refusal.SizeRefusal.{SizeRefusal}
use Rattle.sizes.specs.declared.refusal.SizeRefusal.TheVariants.{File, NonePlays}
use Rattle.sizes.specs.Numbered.{Smallest, size_refusal_number, smallest_of}
use Rattle.sizes.specs.Unique.{SizeNamed-unique, Smallest-unique}

pub size_named_unique : SizeNamed-unique
size_named_unique s m r r' n n' p q =
    let refusals = determined p.refusal q.refusal in
    let codes = determined p.code q.code in
    (λ i. record { refusal = refusals i; code = codes i }, determined p.memory q.memory)

-- the refusal by its number
why_of : ℕ → SizeRefusal
why_of n = cond (eqb n 10) (File Version) (cond (eqb n 11) (File Cut) (cond (eqb n 12) (File Length) (cond (eqb n 13) (File Kind) NonePlays)))

outcome_in : Smallest → Result ℕ SizeRefusal
outcome_in t = cond (eqb t.refusal 0) (Ok t.code) (Err (why_of t.refusal))

outcome_back : (r : Result ℕ SizeRefusal) → outcome_in (smallest_of r) ≡ r
unfolding fault_number size_refusal_number outcome_in why_of
outcome_back (Ok k) = refl
outcome_back (Err (File Version)) = refl
outcome_back (Err (File Cut)) = refl
outcome_back (Err (File Length)) = refl
outcome_back (Err (File Kind)) = refl
outcome_back (Err NonePlays) = refl

pub smallest_unique : Smallest-unique
smallest_unique r r' h = sym (outcome_back r) ∙ ap outcome_in h ∙ outcome_back r'
