-- Any two outcomes that the promise allows are equal.
use Rattle.std.specs.Prelude.{ℕ, ◌≡◌, List, Result}
use Rattle.rules.specs.declared.Board.{Board}
use Rattle.rows.specs.declared.WrongLength.{WrongLength}
use Rattle.rows.specs.Promises.{Put}

abbrev pub Put-one : Type 0
Put-one =
    (b : Board) (row : List ℕ) (r r' : Result (Unit {0}) WrongLength) (left left' : List ℕ)
    → Put b row r left → Put b row r' left' → (r ≡ r') × (left ≡ left')
