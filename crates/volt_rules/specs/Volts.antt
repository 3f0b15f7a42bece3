-- The volts of a level, as an f32. `Float`, `round` and `neg` are the kit's account of IEEE 754 (lib.Ieee): a float is the number that it
-- holds, with its sign.
--   factor range          5, 10 or 20
--   volts_of range level   the volts of a level
use Rattle.std.specs.Prelude.{ℕ, ◌-◌, ◌*◌, false, cond, ltb, eqb, pos, Float}
use Rattle.std.specs.Float.{fin, binary32}
use Rattle.std.specs.Float.Ieee.{round, neg}

-- 02: "5, 10 or 20 for range 0, 1, 2"
unfoldable pub factor : ℕ → ℕ
factor range = cond (eqb range 0) 5 (cond (eqb range 1) 10 20)

-- n / 65,536, rounded to an f32. Of the numbers that come here none is rounded (Volts-exact).
unfoldable pub share : ℕ → Float
share n = round binary32 false n 65536

-- 02: "times 65,536 each is the level less 32,768, times 5, 10 or 20": negative where the level is less than 32,768, and only there
unfoldable pub volts_of : ℕ → ℕ → Float
volts_of range level =
    cond (ltb level 32768) (neg (share ((32768 - level) * factor range))) (share ((level - 32768) * factor range))

-- 02: "Zero is positive zero."
abbrev pub zero_volts : Float
zero_volts = fin false 0 (pos 0)
