-- The product is reckoned in 64 bits, and the rate fits 32: the whole reference is at most 32,000,000.
use Prim.Native.Nat.{ℕ, zero, ◌+◌, ◌*◌, ◌/◌, ◌^◌, ◌≤◌, ◌<◌}
use native.Mathlib.Nat.{div-lt_iff_lt-mul}
use native.Mathlib.Omega.{arith}
use Rattle.rates.proofs.sample_rate.Goals as goal

below : (n d : ℕ) → n ≤ 511 → zero < d → 16000000 * (511 + n) / (511 * d) < 2 ^ 32
below n d h p = (div-lt_iff_lt-mul {k = 511 * d} {x = 16000000 * (511 + n)} {y = 2 ^ 32} (omega arith)).1 (omega arith)

pub overflow_cast-result : goal.overflow_cast-result
overflow_cast-result c =
    let k = c.args.k in
    record { fits = rw (c.from.ensures, c.from-then-k.ensures) (below k.nclk k.divisor c.requires.0 c.requires.1) }
