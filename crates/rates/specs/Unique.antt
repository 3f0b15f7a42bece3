-- Any two answers of the same numbers are equal.
use Rattle.std.specs.Prelude.{◌≡◌, Result}
use Rattle.rules.specs.declared.Refusal.{Refusal}
use Rattle.rules.specs.declared.Frequencies.{Frequencies}
use Rattle.rules.specs.Numbered.{figures_of}

-- the numbers of an answer say all of it
abbrev pub Figures-unique : Type 0
Figures-unique = (r r' : Result Frequencies Refusal) → figures_of r ≡ figures_of r' → r ≡ r'
