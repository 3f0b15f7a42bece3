-- Hex text in other words: bytes, written with two digits each, are read back.
use Rattle.std.specs.Prelude.{ℕ, ◌+◌, ◌/◌, ◌%◌, ◌<◌, ◌≡◌, cond, List, [], ◌∷◌, ltb}
use Rattle.hex_rules.specs.Hex.{whole, hex_reading}

-- "0" to "9", "A" to "F"
unfoldable pub hex_digit : ℕ → ℕ
hex_digit d = cond (ltb d 10) (48 + d) (55 + d)

unfoldable pub spelt : List ℕ → List ℕ
spelt [] = []
spelt (b ∷ bs) = hex_digit (b / 16) ∷ hex_digit (b % 16) ∷ spelt bs

pub data AllBytes : List ℕ → Type 0 where
  none : AllBytes []
  next : {b : ℕ} {bs : List ℕ} → b < 256 → AllBytes bs → AllBytes (b ∷ bs)

abbrev pub Spelt-read : Type 0
Spelt-read = (bs : List ℕ) → AllBytes bs → hex_reading (spelt bs) ≡ record { bytes = bs; stop = whole }
