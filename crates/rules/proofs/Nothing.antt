-- A signal that plays nothing leaves the state as it was, the interrupt request too.
use mathlib.Core.Path.{◌≡◌, refl}
use mathlib.Core.Bool.{Bool, true, false}
use borrow.Author.Tests.{eq-eqb}
use Rattle.rules.specs.Types.{Board, Event, signal, Signal}
use Rattle.rules.specs.Record.{State}
use Rattle.rules.specs.Clocks.{only}
use Rattle.rules.specs.Place.{place}
use Rattle.rules.specs.Size.{initialises, size_after}
use Rattle.rules.specs.Interrupt.{condition, request_held, edge, request_after}
use Rattle.rules.specs.Step.{reading, played, board_before, done}
use Rattle.rules.specs.Laws.Refused.{Nothing}

pub edge_same : (t q : Bool) → edge t t q ≡ q
unfolding edge
edge_same true q = refl
edge_same false q = refl

-- an event that initialises nothing and leaves the board as it was makes no edge
pub request_kept : (e : Event) (b : Board) → initialises e ≡ false → request_after e b b ≡ b.request
unfolding request_after
request_kept e b h = let n = b.core.control.selection in rw (h, eq-eqb n n refl) (edge_same (condition b) b.request)

pub only_nothing : (s : State) (x : Signal) → played s (signal x) ≡ only s.board.core → Nothing s (done s (signal x))
unfolding done board_before reading place size_after request_held initialises
only_nothing s x p =
    record {
      register = refl;
      moved = rw p;
      fate = rw p;
      state = rw (p, request_kept (signal x) s.board refl);
    }
