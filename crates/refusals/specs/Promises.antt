-- The promise of the public function: it fixes the answer.
use Rattle.std.specs.Prelude.{ℕ, ◌≡◌, List, length}
use Rattle.rules.specs.declared.Board.{Board}
use Rattle.rules.specs.declared.Event.{Event}
use Rattle.rules.specs.Refusals.{refusal}
use Rattle.rules.specs.Record.{state_of}

-- the rules' number, on every sample memory of that length
pub record RefusalTold (b : Board) (len : ℕ) (e : Event) (r : ℕ) : Type 0 where
  pub told : (m : List ℕ) → length m ≡ len → r ≡ refusal (state_of b m) e
