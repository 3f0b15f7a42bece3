-- Any two outcomes that a promise allows are equal; and two answers that say one thing of what stands ahead, or of one record played, are.
use Rattle.std.specs.Prelude.{ℕ, ◌≡◌, List, Result, Option}
use Rattle.rules.specs.declared.Board.{Board}
use Rattle.rules.specs.declared.Done.{Done}
use Rattle.rules.specs.declared.Event.{Event}
use Rattle.rules.specs.declared.Refusal.{Refusal}
use Rattle.file_rules.specs.declared.FileError.{FileError}
use Rattle.run.specs.declared.Cursor.{Cursor}
use Rattle.run.specs.declared.Advanced.{Advanced}
use Rattle.run.specs.declared.Ran.{Ran}
use Rattle.run.specs.Ahead.{ahead_of, progress_of}
use Rattle.run.specs.Promises.{Advances, Runs}

abbrev pub Ahead-unique : Type 0
Ahead-unique = (r r' : Result (Option (Event × Cursor)) FileError) → ahead_of r ≡ ahead_of r' → r ≡ r'

abbrev pub Progress-unique : Type 0
Progress-unique = (r r' : Result (Option (Result Done Refusal × Cursor)) FileError) → progress_of r ≡ progress_of r' → r ≡ r'

abbrev pub Advances-unique : Type 0
Advances-unique =
    (s : List ℕ) (c : Cursor) (b : Board) (m : List ℕ) (r r' : Advanced) (n n' : List ℕ)
    → Advances s c b m r n
    → Advances s c b m r' n'
    → (r ≡ r') × (n ≡ n')

abbrev pub Runs-unique : Type 0
Runs-unique = (s m : List ℕ) (r r' : Ran) (n n' : List ℕ) → Runs s m r n → Runs s m r' n' → (r ≡ r') × (n ≡ n')
