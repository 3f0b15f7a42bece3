-- Tests that `&` joins one after another, and the rules' list of them.
use mathlib.Core.Path.{◌≡◌, refl, sym, ◌∙◌}
use mathlib.Core.Bool.{Bool, true, false, ◌&&◌}
use mathlib.Core.List.{List, [], ◌∷◌}
use Rattle.rules.specs.Bits.{all}

-- t and each of ts, from the left
unfoldable pub joined : Bool → List Bool → Bool
joined t [] = t
joined t (u ∷ ts) = joined (t && u) ts

none_joined : (ts : List Bool) → joined false ts ≡ false
unfolding joined
none_joined [] = refl
none_joined (t ∷ ts) = none_joined ts

pub all_joined : (t : Bool) (ts : List Bool) → joined t ts ≡ all (t ∷ ts)
unfolding joined all
all_joined true [] = refl
all_joined false [] = refl
all_joined true (u ∷ ts) = all_joined u ts
all_joined false (u ∷ ts) = none_joined ts
