-- The interrupt request (manual 3.6, table 3.6-1; 01, the paragraph "Interrupt").
use Rattle.std.specs.Prelude.{Bool, true, false, not, ◌&&◌, ◌||◌, cond, List, [], ◌∷◌, eqb, get_or}
use Rattle.rules.specs.Types.{Board, Event, power_up, write, read, signal}
use Rattle.rules.specs.Bits.{bit}
use Rattle.rules.specs.Clocks.{closed, burst_ready}
use Rattle.rules.specs.Flags.{is_empty, is_low, is_high}
use Rattle.rules.specs.Size.{initialises}

-- 01: "conditions 1 calibrated, 2 empty, 3 low quarter, 4 high quarter, 5 burst ready, 6 load ready, 7 not load ready"
unfoldable pub conditions : Board → List Bool
conditions b =
    -- 0  Idle
    false
    -- 1  Autocalibration completed
    ∷ b.core.calibration.calibrated
    -- 2  Output buffer empty
    ∷ is_empty b.ring.count
    -- 3  Output buffer low-quarter
    ∷ is_low b.size b.ring.count
    -- 4  Output buffer high-quarter
    ∷ is_high b.size b.ring.count
    -- 5  Burst Trigger Ready
    ∷ burst_ready b.core
    -- 6  Load Ready
    ∷ not (closed b.core)
    -- 7  End Load Ready
    ∷ closed b.core
    ∷ []

-- the condition that is selected
unfoldable pub condition : Board → Bool
condition b = get_or (conditions b) b.core.control.selection false

-- 01 of a BCR write: "D11 = 0 clears the request, 1 leaves it"
unfoldable pub request_held : Bool → Event → Bool
request_held q (power_up s) = q
request_held q (write o v) = q && (not (eqb o 0x00) || bit 11 v)
request_held q (read o) = q
request_held q (signal s) = q

-- 01: "false to true sets the request after all else; true to false clears it"
unfoldable pub edge : Bool → Bool → Bool → Bool
edge before after q = cond before (cond after q false) (cond after true q)

-- 01: "If an event leaves the selection unchanged, .. Initialise just sets it." b is the board before the event, b' the one after it,
-- its request as D11 left it. Reading: one edge an event, after the whole of it (DECISIONS 26, 27).
unfoldable pub request_after : Event → Board → Board → Bool
request_after e b b' =
    cond (initialises e) true
    (cond (eqb b.core.control.selection b'.core.control.selection) (edge (condition b) (condition b') b'.request)
    b'.request)
