-- A fate is its number; the entries by `refl`, so that a wrong one is refused by its name.
use mathlib.Core.Path.{◌≡◌, refl}
use denote.Enum.Declared.{tag_of}
use Rattle.rules.specs.contracts.Fate.{the_type}
use Rattle.rules.specs.declared.Fate.{Fate}
use Rattle.rules.specs.declared.Fate.TheVariants.{NoLoad, Stored, LostToFull, LostToClosed}
use Rattle.rules.specs.Clocks.{fate_number}
use Rattle.bridge.proofs.numbers.answer_row.Goals as goal

fated : (f : Fate) → tag_of the_type f ≡ fate_number f
fated NoLoad = refl
fated Stored = refl
fated LostToFull = refl
fated LostToClosed = refl

pub returns-in-Ok : goal.returns-in-Ok
returns-in-Ok c = rw (c.in-Ok.is, fated c.in-Ok.done.fate) refl
