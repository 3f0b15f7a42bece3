-- The laws of numbers (specs/Laws): how long their digits are, and that read back they are the number again.
use Prim.Native.Nat.{ℕ, zero, suc, ◌+◌, ◌*◌, ◌/◌, ◌%◌, ◌^◌, ◌<◌, ◌≤◌}
use mathlib.Core.Path.{◌≡◌, refl, sym, ◌∙◌}
use mathlib.Core.List.{List, [], ◌∷◌, ◌++◌, append_assoc}
use native.Mathlib.Nat.{add-suc, div-add-mod, div-lt_iff_lt-mul, pow-suc}
use native.Mathlib.Numerals.{add-one}
use native.Mathlib.Omega.{arith}
use lib.Dec.{ltb}
use lib.ListN.{length, get_or, length-append}
use borrow.Author.Tests.{ltb-true, ltb-false, lt-ltb, le-ltb}
use Rattle.rules.proofs.Choice.{cases, either}
use Rattle.basics.specs.Ascii.{space}
use Rattle.listing_rules.specs.Text.{digit, capital, decimal, decimal_in, hex}
use Rattle.listing_rules.specs.Laws.{worth, said, Decimal-said, Decimal-plain, Hex-said, Hex-long}

-- ---- Lengths

pub hex_long : Hex-long
unfolding hex
hex_long zero n = refl
hex_long (suc k) n = rw (length-append, hex_long k, add-one)

pub decimal_long : (f n : ℕ) → length (decimal_in f n) ≤ suc f
unfolding decimal_in
decimal_long zero n = omega arith
decimal_long (suc f) n =
    either (λ (l : List ℕ). length l ≤ suc (suc f)) (ltb n 10) (omega arith)
    (rw length-append (omega (arith, decimal_long f (n / 10))))

pub field_long : (n : ℕ) → length (space ∷ decimal n) ≤ 11
field_long n = omega (arith, decimal_long 9 n)

-- ---- The digits before the last

front : (base k n : ℕ) → zero < base → n < base ^ suc k → n / base < base ^ k
front base k n h l = (div-lt_iff_lt-mul {k = base} {x = n} {y = base ^ k} h).1 (rw pow-suc at l)

pub decimal_one : (f n : ℕ) → n < 10 → decimal_in f n ≡ digit n ∷ []
unfolding decimal_in
decimal_one zero n h = refl
decimal_one (suc f) n h = rw (lt-ltb n 10 h)

pub decimal_next : (f n : ℕ) → 10 ≤ n → decimal_in (suc f) n ≡ decimal_in f (n / 10) ++ digit (n % 10) ∷ []
unfolding decimal_in
decimal_next f n h = rw (le-ltb n 10 h)

-- the last four at once
pub decimal_four : (f n : ℕ) → 10000 ≤ n
    → decimal_in (suc (suc (suc (suc f)))) n
    ≡ decimal_in f (n / 10000) ++ digit (n / 10 / 10 / 10 % 10) ∷ digit (n / 10 / 10 % 10) ∷ digit (n / 10 % 10) ∷ digit (n % 10) ∷ []
decimal_four f n h =
    let high : n / 10 / 10 / 10 / 10 ≡ n / 10000 = omega arith in
    rw (
      decimal_next (suc (suc (suc f))) n (omega arith),
      decimal_next (suc (suc f)) (n / 10) (omega arith),
      decimal_next (suc f) (n / 10 / 10) (omega arith),
      decimal_next f (n / 10 / 10 / 10) (omega arith),
      high,
    )
    (simp append_assoc)

-- room for more digits than a number has changes nothing
pub decimal_room : (k f n : ℕ) → n < 10 ^ suc f → decimal_in (k + f) n ≡ decimal_in f n
unfolding decimal_in
decimal_room k zero n h = decimal_one (k + zero) n h ∙ sym (decimal_one zero n h)
decimal_room k (suc f) n h = rw (add-suc, decimal_room k f (n / 10) (front 10 (suc f) n (omega arith) h))

pub hex_four : (k n : ℕ) → hex (suc (suc (suc (suc k)))) n ≡ hex k (n / 16 / 16 / 16 / 16) ++ hex 4 n
unfolding hex
hex_four k n = simp append_assoc

-- ---- Read back

said_last : (base so : ℕ) (xs : List ℕ) (c : ℕ) → said base so (xs ++ c ∷ []) ≡ base * said base so xs + worth c
unfolding said
said_last base so [] c = refl
said_last base so (x ∷ xs) c = said_last base (base * so + worth x) xs c

-- a number is said by the digits of its quotient and the remainder's
said_number : (base n : ℕ) (xs : List ℕ) (c : ℕ) → said base 0 xs ≡ n / base → worth c ≡ n % base → said base 0 (xs ++ c ∷ []) ≡ n
said_number base n xs c p q = rw (said_last base 0 xs, p, q) (div-add-mod n base)

worth_digit : (d : ℕ) → d < 10 → worth (digit d) ≡ d
unfolding worth
worth_digit d h = rw (lt-ltb (48 + d) 58 (omega arith)) (omega arith)

worth_letter : (d : ℕ) → 10 ≤ d → worth (55 + d) ≡ d
unfolding worth
worth_letter d h = rw (le-ltb (55 + d) 58 (omega arith)) (omega arith)

worth_capital : (d : ℕ) → worth (capital d) ≡ d
worth_capital d =
    cases (λ (c : ℕ). worth c ≡ d) (ltb d 10) (λ t. worth_digit d (ltb-true d 10 t)) (λ t. worth_letter d (ltb-false d 10 t))

pub hex_said : Hex-said
unfolding hex said
hex_said zero n h = omega arith
hex_said (suc k) n h =
    said_number 16 n (hex k (n / 16)) _ (hex_said k (n / 16) (front 16 k n (omega arith) h)) (worth_capital (n % 16))

said_one : (d : ℕ) → d < 10 → said 10 0 (digit d ∷ []) ≡ d
unfolding said
said_one d h = omega (arith, worth_digit d h)

said_in : (f n : ℕ) → n < 10 ^ suc f → said 10 0 (decimal_in f n) ≡ n
unfolding decimal_in
said_in zero n h = said_one n h
said_in (suc f) n h =
    cases (λ (l : List ℕ). said 10 0 l ≡ n) (ltb n 10) (λ t. said_one n (ltb-true n 10 t))
    (λ t. said_number 10 n (decimal_in f (n / 10)) _ (said_in f (n / 10) (front 10 (suc f) n (omega arith) h)) (worth_digit (n % 10) (omega arith)))

pub decimal_said : Decimal-said
decimal_said n h = said_in 9 n (omega arith)

-- ---- No leading zero

first : (xs ys : List ℕ) → 48 < get_or xs 0 0 → 48 < get_or (xs ++ ys) 0 0
first [] ys h = absurd (omega arith)
first (x ∷ xs) ys h = h

plain_in : (f n : ℕ) → zero < n → 48 < get_or (decimal_in f n) 0 0
unfolding decimal_in
plain_in zero n h = omega arith
plain_in (suc f) n h =
    cases (λ (l : List ℕ). 48 < get_or l 0 0) (ltb n 10) (λ t. omega arith)
    (λ t. first (decimal_in f (n / 10)) _ (plain_in f (n / 10) (omega (arith, ltb-false n 10 t))))

pub decimal_plain : Decimal-plain
decimal_plain n h = plain_in 9 n
