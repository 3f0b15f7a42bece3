-- Only a value that is lost to a full buffer tells a full buffer from another.
use Prim.Native.Nat.{ℕ}
use mathlib.Core.Path.{◌≡◌, refl, sym, ap}
use mathlib.Core.Logic.{◌≢◌, ◌⊎◌, inl, inr}
use mathlib.Core.Bool.{Bool, true, false, cond}
use mathlib.Core.List.{List}
use lib.Dec.{eqb}
use Rattle.rules.specs.declared.Core.{Core}
use Rattle.rules.specs.declared.Event.{Event}
use Rattle.rules.specs.declared.Event.TheVariants.{PowerUp as power_up, Write as write, Read as read, Signal as signal}
use Rattle.rules.specs.Clocks.{Play, closed}
use Rattle.rules.specs.declared.Fate.TheVariants.{LostToFull as lost_to_full}
use Rattle.rules.specs.Writes.{write_data, on_write}
use Rattle.rules.specs.Play.{play}

-- p loses to a full buffer, or is q
abbrev LosesOr : Play → Play → Type 0
LosesOr p q = (p.fate ≡ lost_to_full) ⊎ (p ≡ q)

loses_cond : (t : Bool) {p q p' q' : Play} → LosesOr p p' → LosesOr q q' → LosesOr (cond t p q) (cond t p' q')
loses_cond true h k = h
loses_cond false h k = k

data_full : (c : Core) (v : ℕ) → LosesOr (write_data c true v) (write_data c false v)
unfolding write_data
data_full c v = loses_cond (closed c) (inr refl) (inl refl)

play_full : (c : Core) (buf : List ℕ) (e : Event) → LosesOr (play c buf true e) (play c buf false e)
unfolding play on_write
play_full c buf (power_up x) = inr refl
play_full c buf (write o v) =
    loses_cond (eqb o 0x00) (inr refl)
    (loses_cond (eqb o 0x04) (inr refl)
    (loses_cond (eqb o 0x08) (inr refl)
    (loses_cond (eqb o 0x0C) (inr refl)
    (loses_cond (eqb o 0x18) (data_full c v) (inr refl)))))
play_full c buf (read o) = inr refl
play_full c buf (signal x) = inr refl

-- so where nothing is lost to a full buffer, a buffer that is full no sooner does the same
pub play_same : (c : Core) (buf : List ℕ) (full full' : Bool) (e : Event) → (full ≡ false → full' ≡ false)
    → (play c buf full e).fate ≢ lost_to_full → play c buf full e ≡ play c buf full' e
play_same c buf false full' e h k = ap (λ (x : Bool). play c buf x e) (sym (h refl))
play_same c buf true true e h k = refl
play_same c buf true false e h k = go (play_full c buf e)
  where
    go : LosesOr (play c buf true e) (play c buf false e) → play c buf true e ≡ play c buf false e
    go (inl x) = absurd (k x)
    go (inr x) = x
