-- A digit as std reads it is worth what the definition says, and what std takes for no digit is none.
use Prim.Native.Nat.{ℕ, ◌+◌, ◌*◌, ◌-◌, ◌≤◌, ◌<◌}
use mathlib.Core.Path.{◌≡◌, refl, sym, ◌∙◌}
use mathlib.Core.Bool.{Bool, true, false}
use native.Mathlib.Omega.{arith}
use lib.Dec.{ltb}
use borrow.Author.Tests.{ltb-true, ltb-false, lt-leb, le-leb, le-ltb}
use Rattle.std.specs.Char.{digit_value}
use Rattle.rules.proofs.Choice.{cases}
use Rattle.hex_rules.specs.declared.Mark.TheVariants.{Byte, Fault}
use Rattle.hex_rules.specs.Hex.{hex_worth, byte_of}

-- ---- The characters, range by range

digit : (c : ℕ) → 48 ≤ c → c < 58 → hex_worth c ≡ c - 48
unfolding hex_worth
digit c h k = rw (le-leb 48 c h, le-leb c 57 (omega arith))

below : (c : ℕ) → c < 48 → hex_worth c ≡ 16
unfolding hex_worth
below c h = rw (lt-leb 48 c h, lt-leb 65 c (omega arith), lt-leb 97 c (omega arith))

between : (c : ℕ) → 58 ≤ c → c < 65 → hex_worth c ≡ 16
unfolding hex_worth
between c h k = rw (le-leb 48 c (omega arith), lt-leb c 57 (omega arith), lt-leb 65 c k, lt-leb 97 c (omega arith))

capital : (c : ℕ) → 65 ≤ c → c < 71 → hex_worth c ≡ c - 55
unfolding hex_worth
capital c h k =
    rw (le-leb 48 c (omega arith), lt-leb c 57 (omega arith), le-leb 65 c h, le-leb c 70 (omega arith))

other_capital : (c : ℕ) → 71 ≤ c → c < 97 → hex_worth c ≡ 16
unfolding hex_worth
other_capital c h k =
    rw (le-leb 48 c (omega arith), lt-leb c 57 (omega arith), le-leb 65 c (omega arith), lt-leb c 70 (omega arith), lt-leb 97 c k)

small : (c : ℕ) → 97 ≤ c → c < 103 → hex_worth c ≡ c - 87
unfolding hex_worth
small c h k =
    rw (
      le-leb 48 c (omega arith),
      lt-leb c 57 (omega arith),
      le-leb 65 c (omega arith),
      lt-leb c 70 (omega arith),
      le-leb 97 c h,
      le-leb c 102 (omega arith),
    )

other_small : (c : ℕ) → 103 ≤ c → hex_worth c ≡ 16
unfolding hex_worth
other_small c h =
    rw (
      le-leb 48 c (omega arith),
      lt-leb c 57 (omega arith),
      le-leb 65 c (omega arith),
      lt-leb c 70 (omega arith),
      le-leb 97 c (omega arith),
      lt-leb c 102 (omega arith),
    )

-- ---- std's value

-- v is a hex digit's worth, or no hex digit's
abbrev Worth : ℕ → ℕ → Type 0
Worth c v = (v < 16 → hex_worth c ≡ v) × ((v < 16 → ⊥) → hex_worth c ≡ 16)

is_one : (c v : ℕ) → hex_worth c ≡ v → v < 16 → Worth c v
is_one c v h k = (λ _. h, λ n. absurd (n k))

is_none : (c v : ℕ) → hex_worth c ≡ 16 → 16 ≤ v → Worth c v
is_none c v h k = (λ l. absurd (omega (arith, l, k)), λ _. h)

letter : (c : ℕ) → 65 ≤ c → c < 91 → Worth c (c - 55)
letter c h k = go (ltb c 71) refl
  where
    go : (t : Bool) → ltb c 71 ≡ t → Worth c (c - 55)
    go true e = is_one c _ (capital c h (ltb-true c 71 e)) (omega (arith, ltb-true c 71 e))
    go false e = is_none c _ (other_capital c (ltb-false c 71 e) (omega arith)) (omega (arith, ltb-false c 71 e))

small_letter : (c : ℕ) → 97 ≤ c → c < 123 → Worth c (c - 87)
small_letter c h k = go (ltb c 103) refl
  where
    go : (t : Bool) → ltb c 103 ≡ t → Worth c (c - 87)
    go true e = is_one c _ (small c h (ltb-true c 103 e)) (omega (arith, ltb-true c 103 e))
    go false e = is_none c _ (other_small c (ltb-false c 103 e)) (omega (arith, ltb-false c 103 e))

worth : (c : ℕ) → Worth c (digit_value c)
worth c =
    cases (Worth c) (ltb c 48) (λ t. is_none c 36 (below c (ltb-true c 48 t)) (omega arith))
    (λ t. cases (Worth c) (ltb c 58) (λ u. is_one c _ (digit c (ltb-false c 48 t) (ltb-true c 58 u)) (omega (arith, ltb-true c 58 u)))
    (λ u. cases (Worth c) (ltb c 65) (λ v. is_none c 36 (between c (ltb-false c 58 u) (ltb-true c 65 v)) (omega arith))
    (λ v. cases (Worth c) (ltb c 91) (λ w. letter c (ltb-false c 65 v) (ltb-true c 91 w))
    (λ w. cases (Worth c) (ltb c 97) (λ x. is_none c 36 (other_capital c (omega (arith, ltb-false c 91 w)) (ltb-true c 97 x)) (omega arith))
    (λ x. cases (Worth c) (ltb c 123) (λ y. small_letter c (ltb-false c 97 x) (ltb-true c 123 y))
    (λ y. is_none c 36 (other_small c (omega (arith, ltb-false c 123 y))) (omega arith)))))))

-- ---- A byte

pub both_digits : (x y h l : ℕ) → digit_value x < 16 → h ≡ digit_value x → digit_value y < 16 → l ≡ digit_value y
    → byte_of (hex_worth x) (hex_worth y) ≡ Byte (16 * h + l)
unfolding byte_of
both_digits x y h l p a q b =
    let u : hex_worth x ≡ h = (worth x).0 p ∙ sym a in
    let v : hex_worth y ≡ l = (worth y).0 q ∙ sym b in
    rw (u, v, le-ltb 15 h (omega (arith, p, a)), le-ltb 15 l (omega (arith, q, b)))

pub no_first : (x l : ℕ) → (digit_value x < 16 → ⊥) → byte_of (hex_worth x) l ≡ Fault
unfolding byte_of
no_first x l n = rw ((worth x).1 n)

pub no_second : (h y : ℕ) → (digit_value y < 16 → ⊥) → byte_of h (hex_worth y) ≡ Fault
unfolding byte_of
no_second h y n = rw ((worth y).1 n) (cases (λ m. m ≡ Fault) (ltb 15 h) (λ _. refl) (λ _. refl))
