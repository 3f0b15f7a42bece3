-- The mask of a kit's channels has at least six bits.
use Prim.Native.Nat.{ℕ, ◌^◌, ◌≤◌}
use native.Mathlib.Omega.{arith}
use lib.Dec.{eqb}
use lib.Pow.{pow_mono}
use Rattle.rules.specs.Record.{channels}
use Rattle.rules.specs.Told.{Told}
use Rattle.rules.proofs.Choice.{either}

channels_least : (kit : ℕ) → 6 ≤ channels kit
unfolding channels
channels_least kit = either (λ (n : ℕ). 6 ≤ n) (eqb kit 0) (omega arith) (either (λ (n : ℕ). 6 ≤ n) (eqb kit 1) (omega arith) (omega arith))

pub limit_least : (kit r : ℕ) → Told (2 ^ channels kit) r → 64 ≤ r
limit_least kit r p = let h : 2 ^ 6 ≤ 2 ^ channels kit = pow_mono (channels_least kit) in omega (arith, p.told)
