-- What an event leaves as it was: the parts of a core, named one by one. The rules put parts anew by the setters of Parts.antt; the laws
-- say what stays without them, so that a setter that touches more than its part is refused.
use Rattle.std.specs.Prelude.{◌≡◌, List, [], ◌∷◌}
use Rattle.rules.specs.Types.{Core}

pub data Part : Type 0 where
  power options control mode calibration clock burst load lost mask cursor levels : Part

abbrev pub Stays : Core → Core → Part → Type 0
Stays c c' power = c'.powered ≡ c.powered
Stays c c' options = c'.options ≡ c.options
Stays c c' control = c'.control ≡ c.control
Stays c c' mode = c'.mode ≡ c.mode
Stays c c' calibration = c'.calibration ≡ c.calibration
Stays c c' clock = c'.clock ≡ c.clock
Stays c c' burst = c'.burst ≡ c.burst
Stays c c' load = c'.load ≡ c.load
Stays c c' lost = c'.lost ≡ c.lost
Stays c c' mask = c'.outputs.mask ≡ c.outputs.mask
Stays c c' cursor = c'.outputs.cursor ≡ c.outputs.cursor
Stays c c' levels = c'.outputs.levels ≡ c.outputs.levels

-- every part that is listed stays
infixr 70 ◌also◌
pub data AllStay (c c' : Core) : List Part → Type 0 where
  all : AllStay c c' []
  ◌also◌ : {p : Part} {ps : List Part} → Stays c c' p → AllStay c c' ps → AllStay c c' (p ∷ ps)
