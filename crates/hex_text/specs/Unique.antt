-- Any two outcomes that the promise allows are equal.
use Rattle.std.specs.Prelude.{ℕ, ◌≡◌, List, Result}
use Rattle.hex_text.specs.declared.error.HexError.{HexError}
use Rattle.hex_text.specs.Promises.{Decodes}

abbrev pub Decodes-unique : Type 0
Decodes-unique =
    (text out : List ℕ) (r r' : Result ℕ HexError) (o o' : List ℕ)
    → Decodes text out r o
    → Decodes text out r' o'
    → (r ≡ r') × (o ≡ o')
