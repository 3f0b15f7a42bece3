-- One event on a board record and its sample memory: its answer, the record and the memory after it.
use Rattle.std.specs.Prelude.{ℕ, Bool, cond, eqb}
use Rattle.rules.specs.Types.{Answer, Board, Event, power_up, write, read, signal}
use Rattle.rules.specs.Record.{State, depth, stored}
use Rattle.rules.specs.Clocks.{Play, fate_number}
use Rattle.rules.specs.Flags.{is_full}
use Rattle.rules.specs.Registers.{read_at}
use Rattle.rules.specs.Play.{play}
use Rattle.rules.specs.Place.{Place, place}
use Rattle.rules.specs.Size.{size_after}
use Rattle.rules.specs.Interrupt.{request_held, request_after}
use Rattle.rules.specs.Refusals.{refusal}

pub record Outcome : Type 0 where
  pub answer : Answer
  pub state : State

-- 01: "On refusal the last three are 0, the given record comes back and memory is unchanged."
unfoldable pub refused : ℕ → State → Outcome
refused n s = record { answer = record { refusal = n; register = 0; moved = 0; fate = 0 }; state = s }

-- 01: "register value (0 unless a read)"
unfoldable pub reading : Board → Event → ℕ
reading b (power_up x) = 0
reading b (write o v) = 0
reading b (read o) = read_at b o
reading b (signal x) = 0

-- what the rules make of an event
abbrev pub played : State → Event → Play
played s e = play s.board.core (stored s) (is_full s.board.size s.board.ring.count) e

-- where the values then stand
abbrev pub placed : State → Event → Place
placed s e = place (depth s.board) (played s e).op (record { ring = s.board.ring; memory = s.memory })

-- the board after all but the interrupt's edge
unfoldable pub board_before : State → Event → Board
board_before s e =
    record {
      core = (played s e).core;
      size = size_after s.board.size e;
      request = request_held s.board.request e;
      ring = (placed s e).ring;
    }

abbrev pub with_request : Bool → Board → Board
with_request q b = record { core = b.core; size = b.size; request = q; ring = b.ring }

unfoldable pub done : State → Event → Outcome
done s e =
    record {
      answer = record {
        refusal = 0;
        register = reading s.board e;
        moved = (played s e).moved;
        fate = fate_number (played s e).fate;
      };
      state = record {
        board = with_request (request_after e s.board (board_before s e)) (board_before s e);
        memory = (placed s e).memory;
      };
    }

unfoldable pub step : State → Event → Outcome
step s e = cond (eqb (refusal s e) 0) (done s e) (refused (refusal s e) s)
