-- The four status flags of the active buffer (01, "Stored values, clocks and bursts"), at n stored values.
use Rattle.std.specs.Prelude.{ℕ, ◌*◌, Bool, leb, ltb, eqb}
use Rattle.rules.specs.Types.{Size}
use Rattle.rules.specs.Record.{active_size}

-- 01: "Flags: empty at count 0"
abbrev pub is_empty : ℕ → Bool
is_empty n = eqb n 0

-- 01: "low quarter at 4·count < size"
abbrev pub is_low : Size → ℕ → Bool
is_low s n = ltb (4 * n) (active_size s)

-- 02, 2026-06: "high quarter when 4·count is at least 3·size"; it amends 01 (DECISIONS 117)
abbrev pub is_high : Size → ℕ → Bool
is_high s n = leb (3 * active_size s) (4 * n)

-- 01: "full at count ≥ size"
abbrev pub is_full : Size → ℕ → Bool
is_full s n = leb (active_size s) n
