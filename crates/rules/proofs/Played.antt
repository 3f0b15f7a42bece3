-- The state after an event that is done, by what the rules make of the event.
--   place_after s p       where the values of s stand after p
--   after_play s e p q    s after an event e that the rules make p of, the request being q
use mathlib.Core.Path.{◌≡◌, ap, ◌∙◌}
use mathlib.Core.Bool.{Bool}
use Rattle.rules.specs.Types.{Event}
use Rattle.rules.specs.Record.{State, depth}
use Rattle.rules.specs.Clocks.{Play}
use Rattle.rules.specs.Place.{Place, place, place_of}
use Rattle.rules.specs.Size.{size_after}
use Rattle.rules.specs.Interrupt.{request_after}
use Rattle.rules.specs.Refusals.{refusal}
use Rattle.rules.specs.Step.{Outcome, played, board_before, done, step}
use Rattle.rules.proofs.Steps.{step_done}

abbrev pub place_after : State → Play → Place
place_after s p = place (depth s.board) p.op (place_of s)

abbrev pub after_play : State → Event → Play → Bool → State
after_play s e p q =
    record {
      board = record { core = p.core; size = size_after s.board.size e; request = q; ring = (place_after s p).ring };
      memory = (place_after s p).memory;
    }

pub step_play : (s : State) (e : Event) (p : Play) → refusal s e ≡ 0 → played s e ≡ p
    → (step s e).state ≡ after_play s e p (request_after e s.board (board_before s e))
unfolding done board_before
step_play s e p h k =
    ap (λ (o : Outcome). o.state) (step_done s e h)
    ∙ ap (λ (x : Play). after_play s e x (request_after e s.board (board_before s e))) k

-- what holds after p, whatever the request, holds after the event
pub played_after {κ} : (P : State → Type κ) (s : State) (e : Event) (p : Play) → refusal s e ≡ 0 → played s e ≡ p
    → ((q : Bool) → P (after_play s e p q)) → P (step s e).state
played_after P s e p h k f = rw (step_play s e p h k) (f _)
