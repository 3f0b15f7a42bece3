-- A record by its kind and its fields.
use Rattle.std.specs.Prelude.{ℕ, List, ◌∷◌, ◌++◌, length}
use Rattle.file_rules.specs.Bytes.{two}

-- 01: "two-byte big-endian length of what follows, kind, fields"
abbrev pub record_of : ℕ → List ℕ → List ℕ
record_of kind fields = two (length (kind ∷ fields)) ++ kind ∷ fields
