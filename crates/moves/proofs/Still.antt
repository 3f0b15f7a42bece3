-- What does nothing, and what a clock that moves none does.
use Prim.Native.Nat.{ℕ}
use mathlib.Core.Path.{◌≡◌, refl, ap}
use mathlib.Core.List.{List}
use Rattle.rules.specs.declared.Core.{Core}
use Rattle.rules.specs.declared.Ring.{Ring}
use Rattle.rules.specs.Clocks.{only, moving, moves, clock}
use Rattle.rules.specs.declared.Fate.TheVariants.{NoLoad as none}
use Rattle.rules.specs.Place.{place}
use Rattle.moves.specs.Does.{Does}

pub only_does : (c : Core) (d : ℕ) (ring : Ring) (m : List ℕ) → Does d (only c) ring m (record { core = c; ring = ring; moved = 0; fate = none }) m
unfolding place
only_does c d ring m = record { core = refl; moved = refl; fate = refl; ring = refl; memory = refl }

pub clock_none : (c : Core) (buf : List ℕ) → moving c buf ≡ 0 → clock c buf ≡ only c
unfolding clock moves
clock_none c buf h = ap (moves c buf) h
