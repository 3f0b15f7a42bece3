-- The ring of the stored values: its places mod depth, and what it holds after a value left.
use Prim.Native.Nat.{ℕ, zero, suc, ◌≤◌, ◌<◌}
use mathlib.Core.Bool.{Bool, true, false, cond}
use mathlib.Core.List.{List, ◌++◌}
use native.Mathlib.Omega.{arith}
use lib.ListN.{take, drop}
use Rattle.rules.specs.Clocks.{leave, recirculate}
use Rattle.rules.specs.Place.{Place, times, place}
use Rattle.laws.specs.Lists.{Good, Placed, listed, on_list}
use Rattle.laws.proofs.Places.{place_listed}
use Rattle.rules.specs.declared.Ring.{Ring}
use Rattle.moves.specs.Ready.{Ready}
use Rattle.moves.specs.Does.{ring_place}
use Rattle.moves.specs.Deal.{place_passed}

pub ready_good : {d : ℕ} {r : Ring} {m : List ℕ} → Ready d r m → Good d (ring_place r m)
ready_good h = record { first_lt = h.first; count_le = h.count; enough = h.enough }

-- ---- One value leaves, and is stored again or not

pub left_placed : (again : Bool) (d : ℕ) (p : Place) → Good d p → zero < p.ring.count
    → Placed d p (place_passed again d p) (cond again (drop 1 (listed d p) ++ take 1 (listed d p)) (drop 1 (listed d p)))
unfolding place times on_list
left_placed true d p g h = place_listed d (recirculate 1) p g h
left_placed false d p g h = place_listed d (leave 1) p g h

pub left_count : (again : Bool) (d : ℕ) (p : Place) → p.ring.count ≤ suc (place_passed again d p).ring.count
left_count true d p = omega arith
left_count false d p = omega arith
