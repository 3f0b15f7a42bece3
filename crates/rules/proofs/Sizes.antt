-- The laws of sizes (specs/Laws/Sizes). The active size is at most the depth and grows with both codes; what that says of a full buffer.
-- No kit has more than 20 channels.
use Prim.Native.Nat.{ℕ, zero, ◌*◌, ◌^◌, ◌≤◌, ◌<◌, min}
use mathlib.Core.Path.{◌≡◌, refl, ap}
use mathlib.Core.Bool.{false}
use native.Mathlib.Nat.{pow-suc, min-eq_left, min-eq_right}
use native.Mathlib.Omega.{arith}
use borrow.Author.Tests.{leb-false, lt-leb}
use lib.Dec.{eqb}
use lib.Pow.{pow_pos, pow_mono}
use Rattle.rules.specs.Types.{Size}
use Rattle.rules.specs.Record.{depth_of, active_size, channels}
use Rattle.rules.specs.Flags.{is_full}
use Rattle.rules.specs.Laws.Sizes.{Depth-doubles, Size-lesser, Size-grows, Full-later}
use Rattle.rules.proofs.Choice.{either}

pub depth_doubles : Depth-doubles
unfolding depth_of
depth_doubles = record { least = refl; doubles = λ d. rw pow-suc (omega arith) }

pub size_lesser : Size-lesser
unfolding depth_of active_size
size_lesser z =
    record {
      written = λ h. ap (λ (m : ℕ). 8 * 2 ^ m) (min-eq_left h);
      fitted = λ h. ap (λ (m : ℕ). 8 * 2 ^ m) (min-eq_right h);
    }

pub depth_pos : (d : ℕ) → zero < depth_of d
unfolding depth_of
depth_pos d = omega (arith, pow_pos d)

pub size_pos : (s : Size) → zero < active_size s
unfolding active_size
size_pos s = omega (arith, pow_pos (min s.code s.fitted))

pub size_depth : (s : Size) → active_size s ≤ depth_of s.fitted
unfolding depth_of active_size
size_depth s = let h : 2 ^ min s.code s.fitted ≤ 2 ^ s.fitted = pow_mono (omega arith) in omega arith

pub channels_le : (kit : ℕ) → channels kit ≤ 20
unfolding channels
channels_le kit = either (λ (n : ℕ). n ≤ 20) (eqb kit 0) (omega arith) (either (λ (n : ℕ). n ≤ 20) (eqb kit 1) (omega arith) (omega arith))

-- ---- Sizes of which neither code is lower

pub size_grows : Size-grows
unfolding active_size
size_grows s t h = let k : 2 ^ min s.code s.fitted ≤ 2 ^ min t.code t.fitted = pow_mono (omega arith) in omega arith

-- ---- Full

pub full_later : Full-later
full_later s t n h e = lt-leb (active_size t) n (omega (arith, leb-false (active_size s) n e, size_grows s t h))

pub full_room : (s : Size) (n : ℕ) → is_full s n ≡ false → n < depth_of s.fitted
full_room s n e = omega (arith, leb-false (active_size s) n e, size_depth s)
