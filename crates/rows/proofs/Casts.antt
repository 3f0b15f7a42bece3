-- A bool as the code casts it is its flag.
use mathlib.Core.Path.{◌≡◌, refl}
use mathlib.Core.Bool.{Bool, true, false}
use mir.Val.{bool_byte}
use Rattle.rules.specs.Bits.{flag}

pub flag_cast : (t : Bool) → bool_byte t ≡ flag t
unfolding flag
flag_cast true = refl
flag_cast false = refl
