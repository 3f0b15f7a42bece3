-- Each flag is set by the fate that has its number.
use mathlib.Core.Path.{◌≡◌, refl}
use mathlib.Core.Bool.{◌||◌}
use denote.Enum.Bare.{sameb}
use lib.Dec.{eqb}
use Rattle.rules.specs.Clocks.{fate_number}
use Rattle.rules.specs.Parts.{with_lost}
use Rattle.rules.specs.contracts.Fate.{the_type}
use Rattle.rules.specs.declared.Fate.{Fate}
use Rattle.rules.specs.declared.Fate.TheVariants.{NoLoad, Stored, LostToFull, LostToClosed}
use Rattle.board.specs.Parts.{lost_by}
use Rattle.board.proofs.carry.lost_by.Goals as goal

same_number : (f g : Fate) → sameb the_type f g ≡ eqb (fate_number f) (fate_number g)
same_number NoLoad NoLoad = refl
same_number NoLoad Stored = refl
same_number NoLoad LostToFull = refl
same_number NoLoad LostToClosed = refl
same_number Stored NoLoad = refl
same_number Stored Stored = refl
same_number Stored LostToFull = refl
same_number Stored LostToClosed = refl
same_number LostToFull NoLoad = refl
same_number LostToFull Stored = refl
same_number LostToFull LostToFull = refl
same_number LostToFull LostToClosed = refl
same_number LostToClosed NoLoad = refl
same_number LostToClosed Stored = refl
same_number LostToClosed LostToFull = refl
same_number LostToClosed LostToClosed = refl

pub returns : goal.returns
unfolding lost_by
returns c =
    let a = c.args in
    let full = rw same_number at c.eq.ensures in
    let closed = rw same_number at c.eq-2.ensures in
    λ i. with_lost (record { full = a.c.lost.full || full i; closed = a.c.lost.closed || closed i }) a.c
