-- The size code: the one part of the record that only initialise and BOR writes change, and that no other rule reads but the flags.
use Rattle.std.specs.Prelude.{ℕ, ◌%◌, Bool, true, false, ◌&&◌, cond, eqb}
use Rattle.rules.specs.Types.{Size, Event, power_up, write, read, signal}
use Rattle.rules.specs.Bits.{bit}

-- power-up, or a BCR write with D15 set
unfoldable pub initialises : Event → Bool
initialises (power_up s) = true
initialises (write o v) = eqb o 0x00 && bit 15 v
initialises (read o) = false
initialises (signal s) = false

-- 01: BOR "store D0 to D5"; initialise's "BOR 0000340Fh" has 15 there. Reading: kept as written, also above d (DECISIONS 21).
unfoldable pub code_of : Size → ℕ → ℕ → ℕ
code_of s o v = cond (eqb o 0x0C) (v % 16) (cond (eqb o 0x00 && bit 15 v) 15 s.code)

unfoldable pub size_after : Size → Event → Size
size_after s (power_up x) = record { fitted = x.fitted; code = 15 }
size_after s (write o v) = record { fitted = s.fitted; code = code_of s o v }
size_after s (read o) = s
size_after s (signal x) = s
