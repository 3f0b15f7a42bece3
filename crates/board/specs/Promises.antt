-- The promise of the public function: it fixes every outcome.
use Rattle.std.specs.Prelude.{ℕ, ◌≡◌, List}
use Rattle.board.specs.Types.{Board, Event}
use Rattle.board.specs.declared.Reply.{Reply}
use Rattle.rules.specs.Numbered.{answer_of}
use Rattle.rules.specs.Step.{step}
use Rattle.rules.specs.Record.{state_of}

-- one event: the answer's four numbers, the record and every sample entry are those of the rules
pub record Stepped (b : Board) (m : List ℕ) (e : Event) (r : Reply) (m' : List ℕ) : Type 0 where
  pub answer : answer_of r.answer ≡ (step (state_of b m) e).answer
  pub board : r.board ≡ (step (state_of b m) e).state.board
  pub memory : m' ≡ (step (state_of b m) e).state.memory
