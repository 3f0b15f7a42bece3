-- Any two outcomes that the promise allows are equal.
use mathlib.Core.Path.{◌≡◌, refl, sym, ◌∙◌}
use Rattle.std.specs.Prelude.{Result, Ok, Err}
use Rattle.std.specs.Result.{is_ok}
use Rattle.rows.specs.declared.WrongLength.{WrongLength}
use Rattle.rows.specs.Unique.{Put-one}

-- a row is written or of a wrong length, and more is not said
same : (r r' : Result (Unit {0}) WrongLength) → is_ok r ≡ is_ok r' → r ≡ r'
same (Ok x) (Ok x') e = refl
same (Ok x) (Err w') e = absurd (cc)
same (Err w) (Ok x') e = absurd (cc)
same (Err w) (Err w') e = refl

pub put_one : Put-one
put_one b row r r' left left' p q = (same r r' (p.understood ∙ sym q.understood), p.left ∙ sym q.left)
