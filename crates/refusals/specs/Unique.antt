-- Any two outcomes that the promise allows are equal.
use Rattle.std.specs.Prelude.{ℕ, ◌≡◌, Result}
use Rattle.rules.specs.declared.Board.{Board}
use Rattle.rules.specs.declared.Event.{Event}
use Rattle.rules.specs.declared.Refusal.{Refusal}
use Rattle.rules.specs.Numbered.{outcome_number}
use Rattle.refusals.specs.Promises.{RefusalTold}

abbrev pub RefusalTold-unique : Type 0
RefusalTold-unique = (b : Board) (len : ℕ) (e : Event) (r r' : ℕ) → RefusalTold b len e r → RefusalTold b len e r' → r ≡ r'

-- the number of an answer says all of it
abbrev pub Outcome-unique : Type 0
Outcome-unique = (r r' : Result (Unit {0}) Refusal) → outcome_number r ≡ outcome_number r' → r ≡ r'
