-- Floats that are whole numbers of 65,536ths, and how the kit compares them.
--   Height x h   x times 65,536, and 655,360 more, is the natural number h: so the order of such floats is that of their heights
--   lt_heights, le_heights, heights_le, not_zero   `<`, `<=` and `== 0.0` of them
--   share_value, minus_value                       what n / 65,536 and its opposite are
use Prim.Native.Nat.{ℕ, ◌+◌, ◌*◌, ◌^◌, ◌≤◌, ◌<◌}
use mathlib.Core.Path.{◌≡◌, refl, sym, ap, ap₂, ◌∙◌, subst}
use mathlib.Core.Bool.{Bool, true, false, not, ◌&&◌, ◌||◌, beq, true≢false}
use native.Mathlib.Nat.{mul_comm, mul_assoc, mul_right_comm, mul-pos, add-mul, zero-mul, mul-le-mul_right, mul-lt-mul_of_pos_right, lt_of_lt_of_le}
use native.Mathlib.Omega.{arith}
use borrow.Author.Tests.{lt-ltb, le-ltb, ltb-true, ltb-false, eqb-true, eq-eqb, ne_eqb}
use lib.Dec.{ltb, eqb, lit<, lit≤}
use lib.IntN.{ℤ}
use lib.Pow.{shl_lt}
use lib.Ieee.{Float, nan, inf, fin, binary32, neg, lt, eq, le, below, up, down}
use lib.Ieee.Fits.{down_pos}
use lib.Ieee.Exact.{HasValue, round_exact}
use Rattle.rules.proofs.Choice.{and_both, or_left, or_right, same_test}
use Rattle.volt_rules.specs.Volts.{share, zero_volts}

pub data Height (x : Float) (h : ℕ) : Type 0 where
  over : (a : ℕ) → HasValue x false a 65536 → h ≡ 655360 + a → Height x h
  under : (a : ℕ) → HasValue x true a 65536 → h + a ≡ 655360 → Height x h

-- ---- Two fractions on one denominator

-- two tests of numbers that say the same
same_ltb : (a b c d : ℕ) → (a < b → c < d) → (b ≤ a → d ≤ c) → ltb a b ≡ ltb c d
same_ltb a b c d f g = same_test (ltb a b) (ltb c d) (λ h. lt-ltb c d (f (ltb-true a b h))) (λ h. le-ltb c d (g (ltb-false a b h)))

-- A / D and B / D are a / 65,536 and b / 65,536
scale : (A B a b D : ℕ) → 0 < D → A * 65536 ≡ a * D → B * 65536 ≡ b * D → ltb A B ≡ ltb a b
scale A B a b D p e f =
    sym (same_ltb a b A B (λ l. omega (arith, mul-lt-mul_of_pos_right l p, e, f)) (λ l. omega (arith, mul-le-mul_right D l, e, f)))

module _ (m n : ℕ) (e d : ℤ) (a b : ℕ) (p : m * up e * 65536 ≡ a * down e) (q : n * up d * 65536 ≡ b * down d) where
  left : m * up e * down d * 65536 ≡ a * (down e * down d)
  left = mul_right_comm (m * up e) (down d) 65536 ∙ ap (λ (z : ℕ). z * down d) p ∙ mul_assoc a (down e) (down d)

  right : n * up d * down e * 65536 ≡ b * (down e * down d)
  right =
      mul_right_comm (n * up d) (down e) 65536
      ∙ ap (λ (z : ℕ). z * down e) q
      ∙ mul_assoc b (down d) (down e)
      ∙ ap (λ (z : ℕ). b * z) (mul_comm (down d) (down e))

-- ---- `<`

lt_values : (x y : Float) (s t : Bool) (a b : ℕ) → HasValue x s a 65536 → HasValue y t b 65536 → lt x y ≡ below s a t b
unfolding lt
lt_values nan y s t a b p q = absurd p
lt_values (inf i) y s t a b p q = absurd p
lt_values (fin i m e) nan s t a b p q = absurd q
lt_values (fin i m e) (inf j) s t a b p q = absurd q
lt_values (fin i m e) (fin j n d) s t a b p q =
    ap₂ (λ (u w : Bool). below u (m * up e * down d) w (n * up d * down e)) p.0 q.0 ∙ go s t
  where
    A : m * up e * down d * 65536 ≡ a * (down e * down d)
    A = left m n e d a b p.1 q.1

    B : n * up d * down e * 65536 ≡ b * (down e * down d)
    B = right m n e d a b p.1 q.1

    D : 0 < down e * down d
    D = mul-pos (down_pos e) (down_pos d)

    go : (u w : Bool) → below u (m * up e * down d) w (n * up d * down e) ≡ below u a w b
    go false false = scale (m * up e * down d) (n * up d * down e) a b (down e * down d) D A B
    go false true = refl
    go true false =
        scale 0 (m * up e * down d + n * up d * down e) 0 (a + b) (down e * down d) D (sym (zero-mul (down e * down d)))
        (add-mul (m * up e * down d) (n * up d * down e) 65536 ∙ ap₂ (λ (u w : ℕ). u + w) A B ∙ sym (add-mul a b (down e * down d)))
    go true true = scale (n * up d * down e) (m * up e * down d) b a (down e * down d) D B A

pub lt_heights : {x y : Float} {h g : ℕ} → Height x h → Height y g → lt x y ≡ ltb h g
lt_heights {x} {y} {h} {g} (over a p e) (over b q f) =
    lt_values x y false false a b p q ∙ same_ltb a b h g (λ l. omega (arith, e, f, l)) (λ l. omega (arith, e, f, l))
lt_heights {x} {y} {h} {g} (over a p e) (under b q f) = lt_values x y false true a b p q ∙ sym (le-ltb h g (omega (arith, e, f)))
lt_heights {x} {y} {h} {g} (under a p e) (over b q f) =
    lt_values x y true false a b p q ∙ same_ltb 0 (a + b) h g (λ l. omega (arith, e, f, l)) (λ l. omega (arith, e, f, l))
lt_heights {x} {y} {h} {g} (under a p e) (under b q f) =
    lt_values x y true true a b p q ∙ same_ltb b a h g (λ l. omega (arith, e, f, l)) (λ l. omega (arith, e, f, l))

-- ---- `==` and `<=`

-- the sizes are the same, and the signs too, or both are zero
eq_values : (x y : Float) (s t : Bool) (a : ℕ) → HasValue x s a 65536 → HasValue y t a 65536 → beq s t || eqb a 0 ≡ true → eq x y ≡ true
unfolding eq
eq_values nan y s t a p q h = absurd p
eq_values (inf i) y s t a p q h = absurd p
eq_values (fin i m e) nan s t a p q h = absurd q
eq_values (fin i m e) (inf j) s t a p q h = absurd q
eq_values (fin i m e) (fin j n d) s t a p q h =
    let A = left m n e d a a p.1 q.1 in
    let B = right m n e d a a p.1 q.1 in
    let same : m * up e * down d ≡ n * up d * down e = omega (arith, A, B) in
    ap₂ (λ (u w : Bool). u && w) (eq-eqb _ _ same) (go (beq s t) refl h)
  where
    go : (u : Bool) → beq s t ≡ u → u || eqb a 0 ≡ true → beq i j || eqb (m * up e * down d) 0 ≡ true
    go true f k = or_left (beq i j) _ (ap₂ (λ (u w : Bool). beq u w) p.0 q.0 ∙ f)
    go false f k = or_right (beq i j) _ (eq-eqb (m * up e * down d) 0 (nothing (eqb-true a 0 k)))
      where
        nothing : a ≡ 0 → m * up e * down d ≡ 0
        nothing z =
            let none : a * (down e * down d) ≡ 0 = ap (λ (w : ℕ). w * (down e * down d)) z ∙ zero-mul (down e * down d) in
            omega (arith, left m n e d a a p.1 q.1, none)

eq_heights : {x y : Float} {h : ℕ} → Height x h → Height y h → eq x y ≡ true
eq_heights {x} {y} {h} (over a p e) (over b q f) =
    eq_values x y false false a p (subst (λ (n : ℕ). HasValue y false n 65536) (omega (arith, e, f)) q) refl
eq_heights {x} {y} {h} (over a p e) (under b q f) =
    eq_values x y false true a p (subst (λ (n : ℕ). HasValue y true n 65536) (omega (arith, e, f)) q) (eq-eqb a 0 (omega (arith, e, f)))
eq_heights {x} {y} {h} (under a p e) (over b q f) =
    eq_values x y true false a p (subst (λ (n : ℕ). HasValue y false n 65536) (omega (arith, e, f)) q) (eq-eqb a 0 (omega (arith, e, f)))
eq_heights {x} {y} {h} (under a p e) (under b q f) =
    eq_values x y true true a p (subst (λ (n : ℕ). HasValue y true n 65536) (omega (arith, e, f)) q) refl

pub le_heights : {x y : Float} {h g : ℕ} → Height x h → Height y g → h ≤ g → le x y ≡ true
unfolding le
le_heights {x} {y} {h} {g} p q l = go (ltb h g) refl
  where
    go : (t : Bool) → ltb h g ≡ t → lt x y || eq x y ≡ true
    go true k = or_left (lt x y) (eq x y) (lt_heights p q ∙ k)
    go false k = or_right (lt x y) (eq x y) (eq_heights p (subst (λ (n : ℕ). Height y n) (omega (arith, ltb-false h g k, l)) q))

-- what is equal is not less
eq_not_lt : (x y : Float) (s t : Bool) (a b : ℕ) → HasValue x s a 65536 → HasValue y t b 65536 → eq x y ≡ true → lt y x ≡ false
unfolding eq lt
eq_not_lt nan y s t a b p q h = absurd p
eq_not_lt (inf i) y s t a b p q h = absurd p
eq_not_lt (fin i m e) nan s t a b p q h = absurd q
eq_not_lt (fin i m e) (inf j) s t a b p q h = absurd q
eq_not_lt (fin i m e) (fin j n d) s t a b p q h =
    let A = m * up e * down d in
    let B = n * up d * down e in
    let both = and_both (eqb A B) (beq i j || eqb A 0) h in
    go i j (eqb-true A B both.0) both.1
  where
    go : (u w : Bool) → m * up e * down d ≡ n * up d * down e → beq u w || eqb (m * up e * down d) 0 ≡ true
        → below w (n * up d * down e) u (m * up e * down d) ≡ false
    go false false f k = le-ltb (n * up d * down e) (m * up e * down d) (omega (arith, f))
    go true false f k = refl
    go false true f k = le-ltb 0 (n * up d * down e + m * up e * down d) (omega (arith, f, eqb-true (m * up e * down d) 0 k))
    go true true f k = le-ltb (m * up e * down d) (n * up d * down e) (omega (arith, f))

-- `<=` tells the heights
pub heights_le : {x y : Float} {h g : ℕ} → Height x h → Height y g → le x y ≡ true → h ≤ g
unfolding le
heights_le {x} {y} {h} {g} p q l = go (ltb g h) refl
  where
    value : {z : Float} {f : ℕ} → Height z f → (s : Bool) × (a : ℕ) × HasValue z s a 65536
    value (over a v e) = (false, a, v)
    value (under a v e) = (true, a, v)

    go : (t : Bool) → ltb g h ≡ t → h ≤ g
    go false k = ltb-false g h k
    go true k =
        let not_less : lt x y ≡ false = lt_heights p q ∙ le-ltb h g (omega (arith, ltb-true g h k)) in
        let same : eq x y ≡ true = ap (λ (t : Bool). t || eq x y) (sym not_less) ∙ l in
        absurd (true≢false (sym (lt_heights q p ∙ k) ∙ eq_not_lt x y _ _ _ _ (value p).2 (value q).2 same))

-- what is more than zero in size is not equal to it
pub not_zero : (x : Float) (s : Bool) (a : ℕ) → HasValue x s a 65536 → 0 < a → eq x zero_volts ≡ false
unfolding eq
not_zero nan s a p h = absurd p
not_zero (inf i) s a p h = absurd p
not_zero (fin i m e) s a p h =
    ap (λ (t : Bool). t && (beq i false || eqb (m * up e * 1) 0)) (ne_eqb (m * up e * 1) (0 * 1 * down e) (λ z. omega (arith, p.1, z, zero-mul (down e), mul-pos h (down_pos e))))

-- ---- n / 65,536

neg_value : (x : Float) (a c : ℕ) → HasValue x false a c → HasValue (neg x) true a c
unfolding neg
neg_value nan a c h = absurd h
neg_value (inf s) a c h = absurd h
neg_value (fin s m e) a c h = (ap not h.0, h.1)

-- nothing is rounded: n has no more digits than an f32 keeps
pub share_value : (n : ℕ) → n < 16777216 → HasValue (share n) false n 65536
unfolding share
share_value n h =
    round_exact binary32 false n 65536 n 133 (lit< tt) h (lt_of_lt_of_le (shl_lt 24 133 h) (lit≤ tt)) (sym (mul_assoc n (2 ^ 133) 65536))

pub minus_value : (n : ℕ) → n < 16777216 → HasValue (neg (share n)) true n 65536
minus_value n h = neg_value (share n) n 65536 (share_value n h)
