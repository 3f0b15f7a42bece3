-- The promises of the public functions: each fixes every outcome, the levels and the memory too.
--   dealt_of           what is dealt to the channels of a mask
--   with_levels c ls   the core c with the levels ls
use Rattle.std.specs.Prelude.{ℕ, ◌≡◌, Bool, false, cond, List, leb, length}
use Rattle.rules.specs.declared.Core.{Core}
use Rattle.rules.specs.declared.Ring.{Ring}
use Rattle.moves.specs.declared.Frame.{Frame}
use Rattle.moves.specs.declared.Stored.{Stored}
use Rattle.rules.specs.Bits.{active_from}
use Rattle.rules.specs.Parts.{with_burst, with_load, with_outputs}
use Rattle.rules.specs.Clocks.{Play, fate_number, only, burst_after, load_after}
use Rattle.rules.specs.Writes.{write_data}
use Rattle.rules.specs.Place.{place}
use Rattle.moves.specs.Ready.{fits, can_load}
use Rattle.moves.specs.Does.{ring_place}
use Rattle.moves.specs.Deal.{Dealing, dealing, deal_all}

abbrev pub with_levels : Core → List ℕ → Core
with_levels c ls = with_outputs (record { mask = c.outputs.mask; cursor = c.outputs.cursor; levels = ls }) c

-- the core c with the cursor, what r tells, and the levels ls
abbrev pub joined : Core → ℕ → Frame → List ℕ → Core
joined c cursor r ls =
    with_burst r.burst
    (with_load r.load
    (with_outputs (record { mask = c.outputs.mask; cursor = cursor; levels = ls }) c))

-- ---- A clock

-- none where the ring does not lie in the memory
abbrev pub dealt_of : ℕ → Ring → Bool → Bool → ℕ → List ℕ → List ℕ → Dealing
dealt_of mask ring binary again d ls m =
    deal_all binary again d (active_from 0 (cond (fits ring d (length m)) mask 0)) (dealing ls ring false m)

pub record Deals (mask : ℕ) (x : Frame) (binary again : Bool) (d : ℕ) (ls m : List ℕ) (r : Frame) (ls' m' : List ℕ) : Type 0 where
  pub ended : Bool
  pub dealt : dealing ls' r.ring ended m' ≡ dealt_of mask x.ring binary again d ls m
  pub burst : r.burst ≡ burst_after ended x.burst
  pub load : r.load ≡ load_after ended x.load

-- ---- A load

-- what the rules make of a write of v to 18h; full is what holds the active size or more
abbrev pub load_of : Core → ℕ → Ring → ℕ → ℕ → ℕ → Play
load_of c size ring d v len = cond (can_load size ring d len) (write_data c (leb size ring.count) v) (only c)

pub record LoadsOne (c : Core) (size : ℕ) (at : Ring) (d v : ℕ) (m : List ℕ) (r : Stored) (m' : List ℕ) : Type 0 where
  pub fate : fate_number r.fate ≡ fate_number (load_of c size at d v (length m)).fate
  pub ring : r.ring ≡ (place d (load_of c size at d v (length m)).op (ring_place at m)).ring
  pub memory : m' ≡ (place d (load_of c size at d v (length m)).op (ring_place at m)).memory
