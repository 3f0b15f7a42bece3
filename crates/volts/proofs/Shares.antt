-- A whole number as an f32, over 65,536, is that share: the cast is exact, so the quotient is rounded once.
use Prim.Native.Nat.{ℕ, ◌*◌, ◌≤◌}
use mathlib.Core.Path.{◌≡◌}
use mathlib.Core.Bool.{true, false, true≢false}
use native.Mathlib.Omega.{arith}
use lib.Dec.{lit<}
use lib.IntN.{pos}
use lib.Ieee.{Float, nan, inf, fin, binary32, round, div, of_int, up, down}
use lib.Ieee.Fits.{down_pos}
use lib.Ieee.Exact.{HasValue}
use lib.Ieee.Back.{round_whole}
use lib.Ieee.Scale.{round_same}
use Rattle.volt_rules.specs.Volts.{share}

over : (x : Float) (n : ℕ) → HasValue x false n 1 → div binary32 x (fin false 1 (pos 16)) ≡ share n
unfolding div share
over nan n h = absurd h
over (inf s) n h = absurd h
over (fin false a e) n h =
    round_same binary32 false (a * up e * 1) (65536 * down e) n 65536 (omega (arith, down_pos e)) (lit< tt) (omega (arith, h.1))
over (fin true a e) n h = absurd (true≢false h.0)

pub div_share : (n : ℕ) → n ≤ 16777216 → div binary32 (of_int binary32 (pos n)) (fin false 1 (pos 16)) ≡ share n
unfolding of_int
div_share n h = over (round binary32 false n 1) n (round_whole binary32 false n h)
