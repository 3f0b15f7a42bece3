-- Each promise says what every part of the outcome equals: two that do are equal. And no two outcomes have the same numbers.
use Prim.Native.Nat.{ℕ}
use mathlib.Core.Path.{◌≡◌, refl, sym, ap, ◌∙◌}
use lib.Dec.{eqb}
use Rattle.std.specs.Prelude.{List, Result, Ok, Err, cond}
use Rattle.rules.proofs.Equal.{determined}
use Rattle.file_rules.specs.declared.Fault.TheVariants.{Version, Cut, Length, Kind}
use Rattle.file_rules.specs.File.{fault_number}
use Rattle.volt_rules.specs.declared.Extremes.{Extremes}
use Rattle.volts.specs.declared.refusal.VoltRefusal.{VoltRefusal}
use Rattle.volts.specs.declared.refusal.VoltRefusal.TheVariants.{File, NoPowerUp}
use Rattle.volts.specs.Numbered.{Table, volt_refusal_number, table_of}
use Rattle.volts.specs.Unique.{Tabled-unique, VoltsCalled-unique, Table-unique}

pub tabled_unique : Tabled-unique
tabled_unique s m r r' n n' p q =
    let refusals = determined p.refusal q.refusal in
    let channels = determined p.channels q.channels in
    (λ i. record { refusal = refusals i; channels = channels i }, determined p.memory q.memory)

pub volts_called_unique : VoltsCalled-unique
volts_called_unique s m n n' o o' v v' p q =
    (determined p.refusal q.refusal, determined p.memory q.memory, determined p.numbers q.numbers)

-- the refusal by its number
why_of : ℕ → VoltRefusal
why_of n = cond (eqb n 10) (File Version) (cond (eqb n 11) (File Cut) (cond (eqb n 12) (File Length) (cond (eqb n 13) (File Kind) NoPowerUp)))

outcome_in : Table → Result (List Extremes) VoltRefusal
outcome_in t = cond (eqb t.refusal 0) (Ok t.channels) (Err (why_of t.refusal))

outcome_back : (r : Result (List Extremes) VoltRefusal) → outcome_in (table_of r) ≡ r
unfolding fault_number volt_refusal_number outcome_in why_of
outcome_back (Ok xs) = refl
outcome_back (Err (File Version)) = refl
outcome_back (Err (File Cut)) = refl
outcome_back (Err (File Length)) = refl
outcome_back (Err (File Kind)) = refl
outcome_back (Err NoPowerUp) = refl

pub table_unique : Table-unique
table_unique r r' h = sym (outcome_back r) ∙ ap outcome_in h ∙ outcome_back r'
