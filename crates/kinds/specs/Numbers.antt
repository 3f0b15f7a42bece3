-- The numbers of a record's kinds. 01: "1 power-up ..; 2 write ..; 3 read ..; 4 tick, .. 9 settled"
--   kind_number k   by which number a record says its kind
--   Named n r       r is the kind of the number n, or none where no record has that number
use Rattle.std.specs.Prelude.{ℕ, ◌≡◌, Result, Ok, Err}
use Rattle.kinds.specs.declared.Kind.{Kind}
use Rattle.kinds.specs.declared.Kind.TheVariants.{PowerUp, Write, Read, Signal}
use Rattle.kinds.specs.declared.UnknownKind.{UnknownKind}
use Rattle.file_rules.specs.Bytes.{signal_kind}
use Rattle.file_rules.specs.File.{length_of}

abbrev pub kind_number : Kind → ℕ
kind_number PowerUp = 1
kind_number Write = 2
kind_number Read = 3
kind_number (Signal s) = signal_kind s

-- "13 unknown record kind": one that has no length
abbrev pub Named : ℕ → Result Kind UnknownKind → Type 0
Named n (Ok k) = kind_number k ≡ n
Named n (Err _) = length_of n ≡ 0

-- ---- Uniqueness. Proofs are in proofs/Unique.antt.

-- two kinds of one number are one
abbrev pub Kind-unique : Type 0
Kind-unique = (k k' : Kind) → kind_number k ≡ kind_number k' → k ≡ k'

-- any two answers that `Named` allows are equal
abbrev pub Named-unique : Type 0
Named-unique = (n : ℕ) (r r' : Result Kind UnknownKind) → Named n r → Named n r' → r ≡ r'
