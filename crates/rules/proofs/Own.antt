-- The refusal of a power-up is its first bad setting's number, else 2; that of another event 3, else 2, else the event's own number.
use Prim.Native.Nat.{ℕ}
use mathlib.Core.Path.{◌≡◌, refl}
use mathlib.Core.Bool.{Bool, true, false, cond}
use mathlib.Core.List.{List, [], ◌∷◌, ◌++◌}
use lib.Dec.{eqb}
use Rattle.rules.specs.Types.{Settings, power_up, write, read, signal}
use Rattle.rules.specs.Record.{depth_of}
use Rattle.rules.specs.Refusals.{Row, ◌when◌, first_of, too_short, setting_rows, setting_refusal, standing, rows, refusal}
use Rattle.rules.specs.Own.{own_write, own_number, Power-up-own, Refusal-own}

-- rows that leave the choice to those after them where none of their tests holds: none at all, and one more whose number is not 0
Passing : List Row → Type 0
Passing xs = (ys : List Row) → first_of (xs ++ ys) ≡ cond (eqb (first_of xs) 0) (first_of ys) (first_of xs)

no_row : Passing []
unfolding Passing first_of
no_row ys = refl

row_more : (n : ℕ) → eqb n 0 ≡ false → (t : Bool) (xs : List Row) → Passing xs → Passing (n when t ∷ xs)
unfolding Passing first_of
row_more n e true xs h ys = rw e
row_more n e false xs h ys = h ys

settings_pass : (x : Settings) → Passing (setting_rows x)
unfolding setting_rows
settings_pass x = row_more 1 refl _ _ (row_more 14 refl _ _ (row_more 15 refl _ _ (row_more 16 refl _ _ (row_more 17 refl _ _ no_row))))

pub power_up_own : Power-up-own
unfolding refusal rows setting_refusal Passing first_of
power_up_own s x = settings_pass x (2 when too_short s.memory (depth_of x.fitted) ∷ [])

pub refusal_own : Refusal-own
unfolding refusal rows standing first_of own_number own_write
refusal_own s (power_up x) h = absurd h
refusal_own s (write o v) h = refl
refusal_own s (read o) h = refl
refusal_own s (signal x) h = refl
