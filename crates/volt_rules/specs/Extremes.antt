-- The lowest, the highest and the last of the volts that counted, the latest first. `lt` is the `<` of f32 (lib.Ieee).
use Rattle.std.specs.Prelude.{cond, List, [], ◌∷◌, Float}
use Rattle.std.specs.Float.Ieee.{lt}
use Rattle.volt_rules.specs.Volts.{zero_volts}

-- of two, the one that was there and the one that comes
abbrev pub lesser : Float → Float → Float
lesser x y = cond (lt y x) y x

abbrev pub greater : Float → Float → Float
greater x y = cond (lt x y) y x

-- of many, as they come one after another
unfoldable pub picked : (Float → Float → Float) → List Float → Float
picked pick [] = zero_volts
picked pick (v ∷ []) = v
picked pick (v ∷ w ∷ vs) = pick (picked pick (w ∷ vs)) v

abbrev pub lowest_of : List Float → Float
lowest_of vs = picked lesser vs

abbrev pub highest_of : List Float → Float
highest_of vs = picked greater vs

unfoldable pub last_of : List Float → Float
last_of [] = zero_volts
last_of (v ∷ vs) = v
