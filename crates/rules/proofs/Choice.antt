-- Choices by a test, and what tests joined by `&&`, `||`, `all` say of their parts.
use Prim.Native.Nat.{ℕ, zero, suc, ◌<◌}
use mathlib.Core.Path.{◌≡◌, refl, sym}
use mathlib.Core.Bool.{Bool, true, false, not, ◌&&◌, ◌||◌, cond, true≢false, false≢true}
use mathlib.Core.List.{List, [], ◌∷◌}
use native.Mathlib.Nat.{not-suc-le-zero}
use native.Mathlib.Decide.{ℕ_discrete}
use native.Mathlib.Omega.{arith}
use Rattle.rules.specs.Bits.{all, only_if}

-- ---- cond

pub cases {ℓ κ} : {A : Type ℓ} (P : A → Type κ) (t : Bool) {x y : A} → (t ≡ true → P x) → (t ≡ false → P y) → P (cond t x y)
cases P true f g = f refl
cases P false f g = g refl

pub either {ℓ κ} : {A : Type ℓ} (P : A → Type κ) (t : Bool) {x y : A} → P x → P y → P (cond t x y)
either P true h k = h
either P false h k = k

pub cond_true {ℓ} : {A : Type ℓ} (t : Bool) (x y : A) → t ≡ true → cond t x y ≡ x
cond_true t x y h = rw h

pub cond_false {ℓ} : {A : Type ℓ} (t : Bool) (x y : A) → t ≡ false → cond t x y ≡ y
cond_false t x y h = rw h

pub cond_zero : (t : Bool) (k n : ℕ) → cond t (suc k) n ≡ 0 → (t ≡ false) × (n ≡ 0)
cond_zero true k n h = absurd (omega arith)
cond_zero false k n h = (refl, h)

-- a choice between the two values of a function is the function of the test
pub cond_apply {ℓ} : {A : Type ℓ} (f : Bool → A) (t : Bool) → cond t (f true) (f false) ≡ f t
cond_apply f true = refl
cond_apply f false = refl

pub cond_same {ℓ} : {A : Type ℓ} (t : Bool) (x : A) → cond t x x ≡ x
cond_same true x = refl
cond_same false x = refl

-- ---- && and ||

pub and_cond : (x y : Bool) → x && y ≡ cond x y false
and_cond true y = refl
and_cond false y = refl

pub or_cond : (x y : Bool) → x || y ≡ cond x true y
or_cond true y = refl
or_cond false y = refl

pub and_both : (x y : Bool) → x && y ≡ true → (x ≡ true) × (y ≡ true)
and_both true y h = (refl, h)
and_both false y h = absurd (false≢true h)

pub both_and : (x y : Bool) → x ≡ true → y ≡ true → x && y ≡ true
both_and x y h k = rw (h, k)

pub and_true : (x : Bool) → x && true ≡ x
and_true true = refl
and_true false = refl

pub or_neither : (x y : Bool) → x || y ≡ false → (x ≡ false) × (y ≡ false)
or_neither true y h = absurd (true≢false h)
or_neither false y h = (refl, h)

pub neither_or : (x y : Bool) → x ≡ false → y ≡ false → x || y ≡ false
neither_or x y h k = rw (h, k)

pub or_left : (x y : Bool) → x ≡ true → x || y ≡ true
or_left x y h = rw h

pub or_right : (x y : Bool) → y ≡ true → x || y ≡ true
or_right true y h = refl
or_right false y h = h

-- ---- all and only_if, shut

pub all_cons : (t : Bool) (ts : List Bool) → all (t ∷ ts) ≡ true → (t ≡ true) × (all ts ≡ true)
unfolding all
all_cons t ts h = and_both t (all ts) h

pub cons_all : (t : Bool) (ts : List Bool) → t ≡ true → all ts ≡ true → all (t ∷ ts) ≡ true
unfolding all
cons_all t ts h k = both_and t (all ts) h k

pub all_nil : all [] ≡ true
unfolding all
all_nil = refl

pub only_if_to : (a b : Bool) → only_if a b ≡ true → a ≡ true → b ≡ true
unfolding only_if
only_if_to true b h k = h
only_if_to false b h k = absurd (false≢true k)

pub only_if_from : (a b : Bool) → (a ≡ true → b ≡ true) → only_if a b ≡ true
unfolding only_if
only_if_from true b f = f refl
only_if_from false b f = refl

pub not_and_to : (a b : Bool) → not (a && b) ≡ true → a ≡ true → b ≡ false
not_and_to true true h k = absurd (false≢true h)
not_and_to true false h k = refl
not_and_to false b h k = absurd (false≢true k)

pub not_and_from : (a b : Bool) → (a ≡ true → b ≡ false) → not (a && b) ≡ true
not_and_from true true f = absurd (true≢false (f refl))
not_and_from true false f = refl
not_and_from false b f = refl

-- ---- A test that does not hold

pub not_both : (t : Bool) → not t ≡ true → t ≡ true → ⊥
not_both true h k = false≢true h
not_both false h k = false≢true k

pub not_not : (t : Bool) → not t ≡ false → t ≡ true
not_not true h = refl
not_not false h = absurd (true≢false h)

pub not_true : (t : Bool) → (t ≡ true → ⊥) → t ≡ false
not_true true f = absurd (f refl)
not_true false f = refl

pub not_false : (t : Bool) → (t ≡ false → ⊥) → t ≡ true
not_false true f = refl
not_false false f = absurd (f refl)

pub or_cases {κ} : {C : Type κ} (x y : Bool) → x || y ≡ true → (x ≡ true → C) → (y ≡ true → C) → C
or_cases true y h f g = f refl
or_cases false y h f g = g h

-- two tests of which each holds where the other does
pub same_test : (s t : Bool) → (s ≡ true → t ≡ true) → (s ≡ false → t ≡ false) → s ≡ t
same_test true t f g = sym (f refl)
same_test false t f g = sym (g refl)

-- ---- A test of every number below n, by computation

unfoldable pub up_to : ℕ → (ℕ → Bool) → Bool
up_to zero f = true
up_to (suc n) f = f n && up_to n f

pub up_to_at : (n : ℕ) (f : ℕ → Bool) → up_to n f ≡ true → (k : ℕ) → k < n → f k ≡ true
unfolding up_to
up_to_at zero f h k l = absurd (not-suc-le-zero l)
up_to_at (suc n) f h k l =
    let t = and_both (f n) (up_to n f) h in
    go (ℕ_discrete k n) t.0 (up_to_at n f t.1 k)
  where
    go : Dec (k ≡ n) → f n ≡ true → (k < n → f k ≡ true) → f k ≡ true
    go (yes e) a b = rw e a
    go (no d) a b = b (omega arith)
