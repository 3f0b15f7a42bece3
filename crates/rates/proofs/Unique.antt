-- Refusals of the same number are the same, and no refusal has the number 0.
use Rattle.rules.proofs.Numbered.{same_frequencies}
use Rattle.rates.specs.Unique.{Figures-unique}

pub figures_unique : Figures-unique
figures_unique = same_frequencies
