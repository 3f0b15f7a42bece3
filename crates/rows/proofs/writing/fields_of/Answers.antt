-- The entries one after another, each bool as its flag.
use mathlib.Core.Path.{refl}
use Rattle.rows.proofs.Casts.{flag_cast}
use Rattle.rows.proofs.writing.fields_of.Goals as goal

pub returns : goal.returns
returns c = simp flag_cast refl
