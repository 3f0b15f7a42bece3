-- A whole event: what is put together from the play, the size, the request and the register is the rules' step.
use Prim.Native.Nat.{ℕ, ◌≤◌}
use mathlib.Core.Path.{◌≡◌, refl, sym, ap, ◌∙◌}
use mathlib.Core.Bool.{Bool, true, false, cond, true≢false}
use mathlib.Core.List.{List}
use lib.Dec.{eqb}
use Rattle.rules.specs.Record.{State}
use Rattle.std.specs.Prelude.{Err}
use Rattle.rules.specs.declared.Refusal.{Refusal}
use Rattle.rules.specs.Numbered.{refusal_number, answer_of}
use Rattle.rules.proofs.Numbered.{not_done}
use Rattle.rules.specs.Clocks.{fate_number}
use Rattle.rules.specs.Size.{initialises, size_after}
use Rattle.rules.specs.Interrupt.{condition, edge, request_after}
use Rattle.rules.specs.Refusals.{refusal}
use Rattle.rules.specs.Step.{Outcome, played, placed, reading, refused, board_before, with_request, done, step}
use Rattle.rules.specs.Laws.Refusals.{Ordinary}
use Rattle.rules.proofs.Steps.{step_done, step_refused}
use Rattle.rules.proofs.Refusals.{refusal_stands}
use Rattle.record.specs.Capped.{capped_board}
use Rattle.record.proofs.Depths.{board_same}
use Rattle.board.specs.Types.{Size, Board, Event, power_up, write, read, signal}
use Rattle.board.specs.declared.Reply.{Reply}
use Rattle.board.specs.Promises.{Stepped}

-- an event that initialises nothing is no power-up
ordinary_event : (e : Event) → initialises e ≡ false → Ordinary e
unfolding initialises
ordinary_event (power_up x) h = true≢false h
ordinary_event (write o v) h = tt
ordinary_event (read o) h = tt
ordinary_event (signal x) h = tt

-- neither it nor any that is done changes the fitted code
fitted_kept : (s : Size) (e : Event) → Ordinary e → (size_after s e).fitted ≡ s.fitted
unfolding size_after
fitted_kept s (power_up x) o = absurd o
fitted_kept s (write a v) o = refl
fitted_kept s (read a) o = refl
fitted_kept s (signal x) o = refl

-- the request that is told is the rules', for the fitted code of a record that is not refused is in range
pub request_told : (s : State) (e : Event) (a : Board) → refusal s e ≡ 0 → a.size ≡ size_after s.board.size e
    → request_after e (capped_board s.board) (capped_board a) ≡ request_after e s.board a
unfolding request_after
request_told s e a z p = go (initialises e) refl
  where
    go : (t : Bool) → initialises e ≡ t
        → cond t true
        (cond (eqb s.board.core.control.selection a.core.control.selection)
        (edge (condition (capped_board s.board)) (condition (capped_board a)) a.request) a.request)
        ≡ cond t true
        (cond (eqb s.board.core.control.selection a.core.control.selection)
        (edge (condition s.board) (condition a) a.request) a.request)
    go true h = refl
    go false h =
        let o = ordinary_event e h in
        let f = (refusal_stands s e o z).sound.fitted in
        let g : a.size.fitted ≤ 15 = rw (ap (λ (x : Size). x.fitted) p ∙ fitted_kept s.board.size e o) f in
        rw (board_same s.board f, board_same a g)

-- what is told of an outcome is told of the step that it equals
as_told : (s : State) (e : Event) (r : Reply) (m : List ℕ) {o : Outcome} → o ≡ step s e
    → answer_of r.answer ≡ o.answer → r.board ≡ o.state.board → m ≡ o.state.memory
    → Stepped s.board s.memory e r m
as_told s e r m h p q w = record {
  answer = p ∙ ap (λ (o : Outcome). o.answer) h;
  board = q ∙ ap (λ (o : Outcome). o.state.board) h;
  memory = w ∙ ap (λ (o : Outcome). o.state.memory) h;
}

pub done_stepped : (s : State) (e : Event) (r : Reply) (m : List ℕ) → refusal s e ≡ 0
    → answer_of r.answer ≡ record { refusal = 0; register = reading s.board e; moved = (played s e).moved; fate = fate_number (played s e).fate }
    → r.board ≡ with_request (request_after e s.board (board_before s e)) (board_before s e)
    → m ≡ (placed s e).memory
    → Stepped s.board s.memory e r m
unfolding done
done_stepped s e r m z p q w = as_told s e r m (sym (step_done s e z)) p q w

pub refused_stepped : (s : State) (e : Event) (why : Refusal) → refusal_number why ≡ refusal s e
    → Stepped s.board s.memory e (record { answer = Err why; board = s.board }) s.memory
unfolding refused
refused_stepped s e why p =
    as_told s e _ s.memory (sym (step_refused s e (ap (λ (n : ℕ). eqb n 0) (sym p) ∙ not_done why)))
    (λ i. record { refusal = p i; register = 0; moved = 0; fate = 0 }) refl refl
