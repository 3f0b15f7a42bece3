-- Each test is the one that `fate_of` makes.
use mathlib.Core.Path.{refl, sym, ◌∙◌}
use Rattle.moves.specs.Ready.{can_load, fate_of}
use Rattle.moves.proofs.fates.fate_of.Goals as goal

pub returns-then-not-fits-size : goal.returns-then-not-fits-size
unfolding fate_of can_load
returns-then-not-fits-size c = rw (sym c.fits.ensures, c.if-not-fits-size.true) refl

pub returns-then-closed : goal.returns-then-closed
unfolding fate_of can_load
returns-then-closed c = rw (sym c.fits.ensures, c.if-not-fits-size.false, sym c.closed.ensures.told ∙ c.if-closed.true) refl

pub returns-then-is_full : goal.returns-then-is_full
unfolding fate_of can_load
returns-then-is_full c =
    rw (
      sym c.fits.ensures,
      c.if-not-fits-size.false,
      sym c.closed.ensures.told ∙ c.if-closed.false,
      sym c.is_full.ensures.told ∙ c.if-is_full.true,
    )
    refl

pub returns-else-is_full : goal.returns-else-is_full
unfolding fate_of can_load
returns-else-is_full c =
    rw (
      sym c.fits.ensures,
      c.if-not-fits-size.false,
      sym c.closed.ensures.told ∙ c.if-closed.false,
      sym c.is_full.ensures.told ∙ c.if-is_full.false,
    )
    refl
