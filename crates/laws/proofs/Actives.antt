-- The active channels in order, `active n k mask`: which they are, that they ascend, the lowest of them, and how many.
use Prim.Native.Nat.{ℕ, zero, suc, ◌+◌, ◌/◌, ◌%◌, ◌^◌, ◌≤◌, ◌<◌}
use mathlib.Core.Path.{◌≡◌, refl, sym, ap, ◌∙◌}
use mathlib.Core.Logic.{◌≢◌, ◌⊎◌, inl, inr, ⊎_elim}
use mathlib.Core.Bool.{true, false, cond, true≢false}
use mathlib.Core.List.{List, [], ◌∷◌}
use native.Mathlib.Nat.{le_refl, le_of_eq, pow-suc, div-div-eq-div-mul}
use native.Mathlib.Decide.{ℕ_discrete}
use native.Mathlib.Omega.{arith}
use borrow.Author.Tests.{eqb-true, eqb-false}
use lib.Count.{ones, ones_step}
use lib.Dec.{eqb}
use lib.ListN.{length}
use Rattle.rules.specs.Bits.{bit, active}
use Rattle.laws.specs.Moved.{Among, LowestFrom}
use Rattle.rules.proofs.Choice.{cases, either}
use Rattle.rules.proofs.Readings.{bit_mod}
use Rattle.laws.proofs.Among.{among_nil, among_head, among_tail, among_cons, Ascending, ascending_nil, ascending_cons}

-- one digit more is taken off
pub halved : (mask k : ℕ) → mask / 2 ^ suc k ≡ mask / 2 ^ k / 2
halved mask k = ap (λ (x : ℕ). mask / x) (pow-suc 2 k) ∙ sym (div-div-eq-div-mul mask (2 ^ k) 2)

-- the bits from w up are none of theirs
pub active_low : (n k w mask : ℕ) → n + k ≤ w → active n k (mask % 2 ^ w) ≡ active n k mask
unfolding active
active_low zero k w mask h = refl
active_low (suc n) k w mask h =
    let t = bit_mod w k mask (omega arith) in
    let rest = active_low n (suc k) w mask (omega arith) in
    λ i. cond (t i) (k ∷ rest i) (rest i)

-- ---- Which

pub active_to : (n k mask j : ℕ) → Among j (active n k mask) → (bit j mask ≡ true) × (k ≤ j)
unfolding active
active_to zero k mask j h = absurd (among_nil j h)
active_to (suc n) k mask j h = go (active_to n (suc k) mask j) h
  where
    Member : ℕ → Type 0
    Member k = (bit j mask ≡ true) × (k ≤ j)

    go : (Among j (active n (suc k) mask) → Member (suc k)) → Among j (active (suc n) k mask) → Member k
    go f =
        let later : Among j (active n (suc k) mask) → Member k = λ h. ((f h).0, omega (arith, (f h).1)) in
        cases (λ (ks : List ℕ). Among j ks → Member k) (bit k mask) (λ t h. ⊎_elim (λ e. (rw (← e) t, le_of_eq e)) later (among_cons j k _ h)) (λ t. later)

pub active_from_lem : (n k mask j : ℕ) → k ≤ j → j < n + k → bit j mask ≡ true → Among j (active n k mask)
unfolding active
active_from_lem zero k mask j a b t = absurd (omega arith)
active_from_lem (suc n) k mask j a b t = go (ℕ_discrete k j) (λ l. active_from_lem n (suc k) mask j l (omega arith) t)
  where
    go : Dec (k ≡ j) → (k < j → Among j (active n (suc k) mask)) → Among j (active (suc n) k mask)
    go (yes e) f = rw (← e) (cases (Among k) (bit k mask) (λ _. among_head k _) (λ z. absurd (true≢false (sym t ∙ rw (← e) z))))
    go (no d) f =
        let r = f (omega arith) in
        either (Among j) (bit k mask) (among_tail j k _ r) r

-- ---- In which order

pub active_ascending : (n k mask : ℕ) → Ascending (active n k mask)
unfolding active
active_ascending zero k mask = ascending_nil
active_ascending (suc n) k mask =
    let r = active_ascending n (suc k) mask in
    either Ascending (bit k mask) (ascending_cons k _ (λ j h. (active_to n (suc k) mask j h).1) r) r

-- ---- The lowest

-- of the n channels from k up: none is active, or the list begins with the lowest that is
abbrev pub Begins : ℕ → ℕ → ℕ → List ℕ → Type 0
Begins n k mask ks =
    ((ks ≡ []) × ((j : ℕ) → k ≤ j → j < n + k → bit j mask ≡ false))
    ⊎ ((x : ℕ) × (xs : List ℕ) × (ks ≡ x ∷ xs) × LowestFrom mask k x)

-- k is not active, so what holds of the channels above it holds from k up
inactive_from : (k mask j : ℕ) → bit k mask ≡ false → (k < j → bit j mask ≡ false) → k ≤ j → bit j mask ≡ false
inactive_from k mask j z f a = go (ℕ_discrete k j)
  where
    go : Dec (k ≡ j) → bit j mask ≡ false
    go (yes e) = rw (← e) z
    go (no d) = f (omega arith)

begins_later : (n k mask : ℕ) (ks : List ℕ) → bit k mask ≡ false → Begins n (suc k) mask ks → Begins (suc n) k mask ks
begins_later n k mask ks z (inl t) = inl (t.0, λ j a b. inactive_from k mask j z (λ l. t.1 j l (omega arith)) a)
begins_later n k mask ks z (inr t) =
    inr (
      t.0,
      t.1,
      t.2,
      record {
        active = t.3.active;
        above = omega (arith, t.3.above);
        lowest = λ j a b. inactive_from k mask j z (λ l. t.3.lowest j l b) a;
      },
    )

pub active_begins : (n k mask : ℕ) → Begins n k mask (active n k mask)
unfolding active
active_begins zero k mask = inl (refl, λ j a b. absurd (omega arith))
active_begins (suc n) k mask =
    cases (Begins (suc n) k mask) (bit k mask)
    (λ t. inr (k, active n (suc k) mask, refl, record { active = t; above = le_refl k; lowest = λ j a b. absurd (omega arith) }))
    (λ z. begins_later n k mask _ z (active_begins n (suc k) mask))

-- ---- How many

pub active_length : (n k mask : ℕ) → length (active n k mask) ≤ n
unfolding active
active_length zero k mask = le_refl 0
active_length (suc n) k mask =
    let r = active_length n (suc k) mask in
    either (λ (ks : List ℕ). length ks ≤ suc n) (bit k mask) (omega arith) (omega arith)

ones_zero : ones 0 ≡ 0
unfolding ones
ones_zero = refl

-- shifted k down, the mask has as many ones as channels from k up are active
pub active_ones : (n k mask : ℕ) → mask / 2 ^ k < 2 ^ n → length (active n k mask) ≡ ones (mask / 2 ^ k)
unfolding active
active_ones zero k mask h =
    let e : mask / 2 ^ k ≡ 0 = omega arith in
    rw e (sym ones_zero)
active_ones (suc n) k mask h =
    let m : ℕ = mask / 2 ^ k in
    let q : mask / 2 ^ suc k ≡ m / 2 = halved mask k in
    let r : length (active n (suc k) mask) ≡ ones (m / 2) = active_ones n (suc k) mask (rw q (omega (arith, pow-suc 2 n))) ∙ ap ones q in
    let s = ones_step m in
    cases (λ (ks : List ℕ). length ks ≡ ones m) (eqb (m % 2) 1)
    (λ t. omega (arith, eqb-true (m % 2) 1 t))
    (λ t. let u : m % 2 ≢ 1 = eqb-false (m % 2) 1 t in omega arith)
