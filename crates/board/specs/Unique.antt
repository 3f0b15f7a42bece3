-- Any two outcomes that the promise allows are equal.
use Rattle.std.specs.Prelude.{ℕ, ◌≡◌, List, Result}
use Rattle.rules.specs.declared.Done.{Done}
use Rattle.rules.specs.declared.Refusal.{Refusal}
use Rattle.rules.specs.Numbered.{answer_of}
use Rattle.board.specs.Types.{Board, Event}
use Rattle.board.specs.declared.Reply.{Reply}
use Rattle.board.specs.Promises.{Stepped}

abbrev pub Stepped-unique : Type 0
Stepped-unique =
    (b : Board) (m : List ℕ) (e : Event) (r r' : Reply) (n n' : List ℕ)
    → Stepped b m e r n
    → Stepped b m e r' n'
    → (r ≡ r') × (n ≡ n')

-- the numbers of an answer say all of it
abbrev pub Answer-unique : Type 0
Answer-unique = (r r' : Result Done Refusal) → answer_of r ≡ answer_of r' → r ≡ r'
