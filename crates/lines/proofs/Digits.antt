-- Digits written two at a time are the digits of `decimal_in`, which goes one by one.
use Prim.Native.Nat.{ℕ, suc, ◌*◌, ◌-◌, ◌/◌, ◌%◌, ◌<◌, ◌≤◌}
use mathlib.Core.Path.{◌≡◌}
use mathlib.Core.List.{List, [], ◌∷◌, ◌++◌, append_assoc}
use native.Mathlib.Omega.{arith}
use Rattle.listing_rules.specs.Text.{digit, decimal_in}
use Rattle.listing_rules.proofs.Numbers.{decimal_one, decimal_next}

-- the two digits of a number below 100
abbrev pair : ℕ → List ℕ
pair n = digit (n / 10) ∷ digit (n % 10) ∷ []

-- what is left of a number when its hundreds are taken away has its last two digits
abbrev low : ℕ → ℕ
low n = n - 100 * (n / 100)

low_pair : (n : ℕ) → pair (low n) ≡ digit (n / 10 % 10) ∷ digit (n % 10) ∷ []
low_pair n =
    let tens : low n / 10 ≡ n / 10 % 10 = omega arith in
    let ones : low n % 10 ≡ n % 10 = omega arith in
    λ i. digit (tens i) ∷ digit (ones i) ∷ []

-- the last four digits
abbrev four_digits : ℕ → List ℕ
four_digits n = digit (n / 10 / 10 / 10 % 10) ∷ digit (n / 10 / 10 % 10) ∷ digit (n / 10 % 10) ∷ digit (n % 10) ∷ []

pub two_pairs : (n : ℕ) → pair (n / 100 % 100) ++ pair (low n) ≡ four_digits n
two_pairs n =
    let thousands : n / 100 % 100 / 10 ≡ n / 10 / 10 / 10 % 10 = omega arith in
    let hundreds : n / 100 % 100 % 10 ≡ n / 10 / 10 % 10 = omega arith in
    λ i. digit (thousands i) ∷ digit (hundreds i) ∷ low_pair n i

pub decimal_pair : (f n : ℕ) → 10 ≤ n → n < 100 → decimal_in (suc f) n ≡ pair n
decimal_pair f n h l = rw (decimal_next f n h, decimal_one f (n / 10) (omega arith))

-- the last two at once
pub decimal_two : (f n : ℕ) → 100 ≤ n → decimal_in (suc (suc f)) n ≡ decimal_in f (n / 100) ++ pair (low n)
decimal_two f n h =
    let hundreds : n / 10 / 10 ≡ n / 100 = omega arith in
    rw (decimal_next (suc f) n (omega arith), decimal_next f (n / 10) (omega arith), hundreds, low_pair n, append_assoc)
