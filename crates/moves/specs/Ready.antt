-- What the functions below the public ones count on, and the tests by which the public ones make sure of it.
--   Ready d ring m   the values of the ring have their places in the memory m, the depth being d
use Rattle.std.specs.Prelude.{ℕ, ◌≤◌, ◌<◌, Bool, cond, ◌&&◌, List, [], ◌∷◌, leb, ltb, length}
use Rattle.rules.specs.declared.Core.{Core}
use Rattle.rules.specs.declared.Ring.{Ring}
use Rattle.rules.specs.Bits.{all}
use Rattle.rules.specs.Clocks.{closed}

pub record Ready (d : ℕ) (ring : Ring) (m : List ℕ) : Type 0 where
  pub first : ring.first < d
  pub count : ring.count ≤ d
  pub enough : d ≤ length m
  pub small : d ≤ 262144

-- in a memory of len values
unfoldable pub fits : Ring → ℕ → ℕ → Bool
fits ring d len = all (ltb ring.first d ∷ leb ring.count d ∷ leb d len ∷ leb d 262144 ∷ [])

-- the active size is at most the depth, so that a buffer below it has room
unfoldable pub can_load : ℕ → Ring → ℕ → ℕ → Bool
can_load size ring d len = fits ring d len && leb size d

-- what becomes of a load, as a number
unfoldable pub fate_of : Core → ℕ → Ring → ℕ → ℕ → ℕ
fate_of c size ring d len = cond (can_load size ring d len) (cond (closed c) 3 (cond (leb size ring.count) 2 1)) 0
