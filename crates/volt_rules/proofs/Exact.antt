-- The volts of a level are exact, in the order of the levels, and zero is positive.
use Prim.Native.Nat.{ℕ, ◌+◌, ◌-◌, ◌*◌, ◌≤◌, ◌<◌}
use mathlib.Core.Path.{◌≡◌, refl, sym, ap, ◌∙◌, subst}
use mathlib.Core.Bool.{Bool, true, false, true≢false}
use native.Mathlib.Nat.{zero-mul, add-mul, mul-le-mul, mul-pos, le_of_mul-le-mul_right}
use native.Mathlib.Decide.{ℕ_discrete}
use native.Mathlib.Omega.{arith}
use borrow.Author.Tests.{lt-ltb, le-ltb, ltb-true, ltb-false}
use lib.Dec.{ltb, eqb}
use lib.Ieee.{round, neg, eq, le}
use lib.Ieee.Exact.{HasValue}
use Rattle.rules.proofs.Choice.{either}
use Rattle.volt_rules.specs.Volts.{factor, share, volts_of, zero_volts}
use Rattle.volt_rules.specs.Laws.{Exact, Volts-exact}
use Rattle.volt_rules.proofs.Floats.{Height, over, under, heights_le, not_zero, share_value, minus_value}

-- ---- Sizes

factor_small : (range : ℕ) → factor range ≤ 20
unfolding factor
factor_small range = either (λ (n : ℕ). n ≤ 20) (eqb range 0) (omega arith) (either (λ (n : ℕ). n ≤ 20) (eqb range 1) (omega arith) (omega arith))

factor_pos : (range : ℕ) → 0 < factor range
unfolding factor
factor_pos range = either (λ (n : ℕ). 0 < n) (eqb range 0) (omega arith) (either (λ (n : ℕ). 0 < n) (eqb range 1) (omega arith) (omega arith))

-- the size of a voltage, times 65,536
pub size_small : (n range : ℕ) → n ≤ 32768 → n * factor range ≤ 655360
size_small n range h = mul-le-mul h (factor_small range)

-- ---- Above and below midrange

volts_above : (range level : ℕ) → 32768 ≤ level → volts_of range level ≡ share ((level - 32768) * factor range)
unfolding volts_of
volts_above range level h = rw (le-ltb level 32768 h)

volts_below : (range level : ℕ) → level < 32768 → volts_of range level ≡ neg (share ((32768 - level) * factor range))
unfolding volts_of
volts_below range level h = rw (lt-ltb level 32768 h)

above_value : (range level : ℕ) → level < 65536 → 32768 ≤ level → HasValue (volts_of range level) false ((level - 32768) * factor range) 65536
above_value range level h l =
    rw (volts_above range level l) (share_value _ (omega (arith, size_small (level - 32768) range (omega (arith, h)))))

below_value : (range level : ℕ) → level < 32768 → HasValue (volts_of range level) true ((32768 - level) * factor range) 65536
below_value range level l =
    rw (volts_below range level l) (minus_value _ (omega (arith, size_small (32768 - level) range (omega arith))))

-- ---- The laws

pub exactly : (range level : ℕ) → level < 65536 → Exact (factor range) level (volts_of range level)
exactly range level h = record { above = above_value range level h; below = below_value range level }

pub factors : (factor 0 ≡ 5) × (factor 1 ≡ 10) × (factor 2 ≡ 20)
unfolding factor
factors = (refl, refl, refl)

pub volts_exact : Volts-exact
volts_exact level h = (of 0 5 factors.0, of 1 10 factors.1, of 2 20 factors.2)
  where
    of : (range k : ℕ) → factor range ≡ k → Exact k level (volts_of range level)
    of range k e = subst (λ (n : ℕ). Exact n level (volts_of range level)) e (exactly range level h)

-- ---- The order

-- the height of a level's volts, and that it grows with the level
abbrev pub LevelHeight : ℕ → ℕ → Type 0
LevelHeight range level = (h : ℕ) × Height (volts_of range level) h × (h + 32768 * factor range ≡ 655360 + level * factor range)

added : (a b c f : ℕ) → a + b ≡ c → a * f + b * f ≡ c * f
added a b c f e = sym (add-mul a b f) ∙ ap (λ (n : ℕ). n * f) e

pub volts_height : (range level : ℕ) → level < 65536 → LevelHeight range level
volts_height range level h = go (ltb level 32768) refl
  where
    go : (t : Bool) → ltb level 32768 ≡ t → LevelHeight range level
    go true e =
        let n = (32768 - level) * factor range in
        let l = ltb-true _ _ e in
        let small = size_small (32768 - level) range (omega arith) in (
          655360 - n,
          under n (below_value range level l) (omega (arith, small)),
          omega (arith, small, added (32768 - level) level 32768 (factor range) (omega (arith, l))),
        )
    go false e =
        let n = (level - 32768) * factor range in
        let l = ltb-false _ _ e in
        (655360 + n, over n (above_value range level h l) refl, omega (arith, added (level - 32768) 32768 level (factor range) (omega (arith, l))))

-- the order of volts is that of their levels
pub volts_order : (range a b : ℕ) → a < 65536 → b < 65536 → le (volts_of range a) (volts_of range b) ≡ true → a ≤ b
volts_order range a b k l h =
    let v = volts_height range a k in
    let w = volts_height range b l in
    let times : a * factor range ≤ b * factor range = omega (arith, heights_le v.1 w.1 h, v.2, w.2) in
    le_of_mul-le-mul_right {m = a} {n = b} {k = factor range} times (factor_pos range)

-- ---- Zero

zero_share : share 0 ≡ zero_volts
unfolding share round
zero_share = refl

-- 8000h is zero volts in every range
pub midrange_zero : (range : ℕ) → volts_of range 32768 ≡ zero_volts
midrange_zero range = volts_above range 32768 (omega arith) ∙ ap share (zero-mul (factor range)) ∙ zero_share

pub volts_zero : (range level : ℕ) → level < 65536 → eq (volts_of range level) zero_volts ≡ true → volts_of range level ≡ zero_volts
volts_zero range level h z = go (ℕ_discrete level 32768) (ltb level 32768) refl
  where
    less : level < 32768 → 0 < 32768 - level
    less l = omega (arith, l)

    more : ¬ (level ≡ 32768) → 32768 ≤ level → 0 < level - 32768
    more d l = omega (arith, d, l)

    go : Dec (level ≡ 32768) → (t : Bool) → ltb level 32768 ≡ t → volts_of range level ≡ zero_volts
    go (yes e) t f = ap (volts_of range) e ∙ midrange_zero range
    go (no d) true f =
        absurd (true≢false (sym z ∙ not_zero _ true _ (below_value range level (ltb-true _ _ f)) (mul-pos (less (ltb-true _ _ f)) (factor_pos range))))
    go (no d) false f =
        absurd (true≢false (sym z ∙ not_zero _ false _ (above_value range level h (ltb-false _ _ f)) (mul-pos (more d (ltb-false _ _ f)) (factor_pos range))))
