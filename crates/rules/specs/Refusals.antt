-- Which events are refused, and by which number (01, "Refusal numbers"; 02, 2026-02, for the settings of a power-up).
--   n when t          the number n is given where the test t holds
--   first_of rs        the number of the first row whose test holds, 0 where none does
--   setting_refusal x  the number of the first bad setting of a power-up, 0 where none is bad
use Rattle.std.specs.Prelude.{ℕ, Bool, false, not, ◌||◌, cond, List, [], ◌∷◌, ◌++◌, ltb, eqb, length}
use Rattle.rules.specs.Types.{Settings, Core, Event, power_up, write, read, signal, Signal, tick, outside, trigger, passed, failed, settled}
use Rattle.rules.specs.Record.{State, depth_of, depth, fitted_in_range, code_in_range, firmware_in_range, sound}
use Rattle.rules.specs.Registers.{is_offset}

infix 70 ◌when◌
pub record Row : Type 0 where
  pub number : ℕ
  pub test : Bool

abbrev pub ◌when◌ : ℕ → Bool → Row
◌when◌ n t = record { number = n; test = t }

unfoldable pub first_of : List Row → ℕ
first_of [] = 0
first_of (r ∷ rs) = cond r.test r.number (first_of rs)

-- ---- The tests

-- "sample memory shorter than the depth"
abbrev pub too_short : List ℕ → ℕ → Bool
too_short memory depth = ltb (length memory) depth

-- "write to 10h or 14h"
abbrev pub is_read_only : ℕ → Bool
is_read_only o = eqb o 0x10 || eqb o 0x14

-- "calibration end while none runs, or settled while not settling"
unfoldable pub ends_nothing : Core → Signal → Bool
ends_nothing c tick = false
ends_nothing c outside = false
ends_nothing c trigger = false
ends_nothing c passed = not c.calibration.running
ends_nothing c failed = not c.calibration.running
ends_nothing c settled = not c.clock.settling

-- ---- The order

-- 02, 2026-02: "1 now means the fitted code only; 14 range, 15 filter, 16 kit, 17 firmware; checked in that order, then 2."
unfoldable pub setting_rows : Settings → List Row
setting_rows x =
    1 when not (fitted_in_range x.fitted)
    ∷ 14 when not (code_in_range x.range)
    ∷ 15 when not (code_in_range x.filter)
    ∷ 16 when not (code_in_range x.kit)
    ∷ 17 when not (firmware_in_range x.firmware)
    ∷ []

unfoldable pub setting_refusal : Settings → ℕ
setting_refusal x = first_of (setting_rows x)

-- 01: "other events 3, 2, 4, 5, 6, or 3, 2, 7". Reading: 2 at every event, reads too (DECISIONS 31).
unfoldable pub standing : State → List Row → List Row
standing s rest = 3 when not (sound s.board) ∷ 2 when too_short s.memory (depth s.board) ∷ rest

-- 01, of a power-up: "any old record is accepted".
unfoldable pub rows : State → Event → List Row
rows s (power_up x) = setting_rows x ++ 2 when too_short s.memory (depth_of x.fitted) ∷ []
rows s (write o v) = standing s (4 when not (is_offset o) ∷ 5 when is_read_only o ∷ 6 when s.board.core.calibration.running ∷ [])
rows s (read o) = standing s (4 when not (is_offset o) ∷ [])
rows s (signal x) = standing s (7 when ends_nothing s.board.core x ∷ [])

unfoldable pub refusal : State → Event → ℕ
refusal s e = first_of (rows s e)
