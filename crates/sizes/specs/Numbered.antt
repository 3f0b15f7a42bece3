-- The answer of code in document 02's numbers: the refusal number and the size code.
--   size_refusal_number why   by which number a session is refused
--   smallest_of r             that number, 0 where there is none, and the code that is named
use Rattle.std.specs.Prelude.{ℕ, Result, Ok, Err}
use Rattle.file_rules.specs.File.{fault_number}
use Rattle.sizes.specs.declared.refusal.SizeRefusal.{SizeRefusal}
use Rattle.sizes.specs.declared.refusal.SizeRefusal.TheVariants.{File, NonePlays}

pub record Smallest : Type 0 where
  pub refusal : ℕ
  pub code : ℕ

-- 02: "10 to 13 first"; "19 exactly when none of the sixteen codes plays without loss"
unfoldable pub size_refusal_number : SizeRefusal → ℕ
size_refusal_number (File why) = fault_number why
size_refusal_number NonePlays = 19

-- "each names code 0"
abbrev pub smallest_of : Result ℕ SizeRefusal → Smallest
smallest_of (Ok k) = record { refusal = 0; code = k }
smallest_of (Err why) = record { refusal = size_refusal_number why; code = 0 }
