-- Events that the loop over a session does at once, and what of the board they change. For the code.
--   common_event x     the event that `Common` tells
--   common_of a        what stands ahead, as `Common` tells it, and the cursor after it; none where it is another event
--   takes b d         the board b, of d values, stores the next load, and that changes its ring alone
--   ticks c           a tick is accepted
--   quick b d x       the event that x tells can be done at once
--   at_hand b d a      what stands ahead as `common_of` has it, where it can be done at once
--   board_as b c r     the board b with the core c and the ring r
--   board_with b ls    the board b with the levels ls
--   board_of b r ls    the board b with what is new in r, and the levels ls
--   InRun s           the states of a run: not powered, or sound over enough memory (of `laws`)
use Rattle.std.specs.Prelude.{ℕ, Bool, not, cond, ◌&&◌, List, [], ◌∷◌, eqb, leb, Ok, Option, Some, None}
use Rattle.rules.specs.declared.Signal.{Signal}
use Rattle.rules.specs.declared.Signal.TheVariants.{Tick as tick, Outside, Trigger, Passed, Failed, Settled}
use Rattle.rules.specs.declared.Event.{Event}
use Rattle.rules.specs.declared.Event.TheVariants.{PowerUp, Write as write, Read, Signal as signal}
use Rattle.rules.specs.declared.Core.{Core}
use Rattle.rules.specs.declared.Ring.{Ring}
use Rattle.rules.specs.declared.Board.{Board}
use Rattle.rules.specs.Bits.{all}
use Rattle.rules.specs.Parts.{with_burst, with_load, with_outputs}
use Rattle.rules.specs.Clocks.{closed, tick_accepted}
pub use Rattle.laws.specs.Lasting.{InRun}
use Rattle.moves.specs.Promises.{with_levels}
use Rattle.board.specs.declared.Reply.{Reply}
use Rattle.run.specs.declared.Cursor.{Cursor}
use Rattle.run.specs.Ahead.{Ahead, Found, Over}
use Rattle.listing.specs.declared.shortcuts.Common.{Common}
use Rattle.listing.specs.declared.shortcuts.Common.TheVariants.{Load, Tick}
use Rattle.listing.specs.declared.shortcuts.Change.{Change}

-- ---- Which events

abbrev pub common_event : Common → Event
common_event (Load v) = write 0x18 v
common_event Tick = signal tick

abbrev pub common_signal : Signal → Cursor → Option (Common × Cursor)
common_signal tick c = Some (Tick, c)
common_signal Outside c = None
common_signal Trigger c = None
common_signal Passed c = None
common_signal Failed c = None
common_signal Settled c = None

abbrev pub common_of : Ahead → Option (Common × Cursor)
common_of (Found (write o v) c) = cond (eqb o 0x18) (Some (Load v, c)) None
common_of (Found (signal x) c) = common_signal x c
common_of (Found (PowerUp x) c) = None
common_of (Found (Read o) c) = None
common_of (Over x) = None

-- No interrupt is selected, so that no edge can come of it; the active buffer is the whole one.
unfoldable pub takes : Board → ℕ → Bool
takes b d =
    all
    (eqb b.core.control.selection 0 ∷ not b.core.calibration.running ∷ not (closed b.core)
    ∷ leb b.size.fitted b.size.code ∷ not (leb d b.ring.count) ∷ [])

unfoldable pub ticks : Core → Bool
ticks c = all (eqb c.control.selection 0 ∷ tick_accepted c ∷ [])

abbrev pub quick : Board → ℕ → Common → Bool
quick b d (Load v) = b.core.powered && takes b d
quick b d Tick = b.core.powered && ticks b.core

abbrev pub where_quick : Board → ℕ → Option (Common × Cursor) → Option (Common × Cursor)
where_quick b d None = None
where_quick b d (Some x) = cond (quick b d x.0) (Some x) None

abbrev pub at_hand : Board → ℕ → Ahead → Option (Common × Cursor)
at_hand b d a = where_quick b d (common_of a)

-- ---- What is new

-- the board of its parts: those that no load and no tick changes stand in `rest`
abbrev pub board_as : Board → Core → Ring → Board
board_as rest core ring = record { core = core; size = rest.size; request = rest.request; ring = ring }

abbrev pub board_with : Board → List ℕ → Board
board_with b ls = record { core = with_levels b.core ls; size = b.size; request = b.request; ring = b.ring }

abbrev pub core_with : Core → Change → List ℕ → Core
core_with c r ls =
    with_burst r.frame.burst
    (with_load r.frame.load
    (with_outputs (record { mask = c.outputs.mask; cursor = r.cursor; levels = ls }) c))

abbrev pub board_of : Board → Change → List ℕ → Board
board_of b r ls = record { core = core_with b.core r ls; size = b.size; request = b.request; ring = r.frame.ring }

abbrev pub reply_of : Board → Change → List ℕ → Reply
reply_of b r ls = record { answer = Ok (record { register = 0; moved = r.moved; fate = r.fate }); board = board_of b r ls }
