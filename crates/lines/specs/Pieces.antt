-- A part of a line.
use Rattle.std.specs.Prelude.{ℕ, List, [], ◌∷◌, ◌++◌}
use Rattle.basics.specs.Ascii.{newline, space}
use Rattle.listing_rules.specs.Text.{decimal}

-- the end of a line, after the register
abbrev pub rest : ℕ → ℕ → ℕ → List ℕ
rest moved fate count = space ∷ decimal moved ++ space ∷ decimal fate ++ space ∷ decimal count ++ newline ∷ []
