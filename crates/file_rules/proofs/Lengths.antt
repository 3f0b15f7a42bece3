-- The kinds of records: `length_of` says the length of those that are known, and 0 of no other.
use Prim.Native.Nat.{ℕ, zero, suc, ◌+◌, ◌≤◌}
use mathlib.Core.Path.{◌≡◌, refl, sym, ap, subst, ◌∙◌}
use mathlib.Core.Logic.{◌≢◌}
use mathlib.Core.Bool.{false}
use mathlib.Core.List.{List}
use native.Mathlib.Omega.{arith}
use borrow.Author.Tests.{eqb-true, leb-true, le-leb, ne_eqb}
use lib.Dec.{eqb, leb}
use lib.ListN.{length}
use Rattle.rules.proofs.Choice.{cases, either}
use Rattle.file_rules.specs.File.{byte_at, length_of}
use Rattle.file_rules.specs.Laws.{Known, power_up, write, read, signal}

pub known_length : (k n : ℕ) → Known k n → length_of k ≡ n
unfolding length_of
known_length k n power_up = refl
known_length k n write = refl
known_length k n read = refl
known_length k n (signal j h l) =
    let one : eqb j 1 ≡ false = ne_eqb j 1 (λ e. absurd (omega arith)) in
    let two : eqb j 2 ≡ false = ne_eqb j 2 (λ e. absurd (omega arith)) in
    let three : eqb j 3 ≡ false = ne_eqb j 3 (λ e. absurd (omega arith)) in
    rw (one, two, three, le-leb 4 j h, le-leb j 9 l)

pub known_some : (k n : ℕ) → Known k n → n ≢ 0
known_some k n power_up e = absurd (omega arith)
known_some k n write e = absurd (omega arith)
known_some k n read e = absurd (omega arith)
known_some k n (signal j h l) e = absurd (omega arith)

pub known_small : (k n : ℕ) → Known k n → k ≤ 9
known_small k n power_up = omega arith
known_small k n write = omega arith
known_small k n read = omega arith
known_small k n (signal j h l) = l

pub length_known : (k : ℕ) → length_of k ≢ 0 → Known k (length_of k)
unfolding length_of
length_known k =
    let P : ℕ → Type 0 = λ n. n ≢ 0 → Known k n in
    cases P (eqb k 1) (λ t _. subst (λ (x : ℕ). Known x 7) (sym (eqb-true k 1 t)) power_up) (λ _.
    cases P (eqb k 2) (λ t _. subst (λ (x : ℕ). Known x 6) (sym (eqb-true k 2 t)) write) (λ _.
    cases P (eqb k 3) (λ t _. subst (λ (x : ℕ). Known x 2) (sym (eqb-true k 3 t)) read) (λ _.
    cases P (leb 4 k) (λ t. cases P (leb k 9) (λ u _. signal k (leb-true 4 k t) (leb-true k 9 u)) (λ _ h. absurd (h refl))) (λ _ h. absurd (h refl)))))

pub length_small : (k : ℕ) → length_of k ≤ 7
unfolding length_of
length_small k =
    let P : ℕ → Type 0 = λ n. n ≤ 7 in
    either P (eqb k 1) (omega arith) (either P (eqb k 2) (omega arith) (either P (eqb k 3) (omega arith)
    (either P (leb 4 k) (either P (leb k 9) (omega arith) (omega arith)) (omega arith))))

-- a kind of which no record is known
pub unknown_zero : (k : ℕ) → ((n : ℕ) → ¬ Known k n) → length_of k ≡ 0
unknown_zero k u = go (length_of k) refl
  where
    go : (n : ℕ) → length_of k ≡ n → length_of k ≡ 0
    go zero e = e
    go (suc n) e = absurd (u (length_of k) (length_known k (λ z. absurd (omega arith))))

pub zero_unknown : (k : ℕ) → length_of k ≡ 0 → (n : ℕ) → ¬ Known k n
zero_unknown k z n h = known_some k n h (sym (known_length k n h) ∙ z)

-- the bytes of a record of a known kind are there
pub record_room : (s : List ℕ) (at k n : ℕ) → Known k n → byte_at s at ≡ k → at + length_of (byte_at s at) ≤ length s → at + n ≤ length s
record_room s at k n h e l = subst (λ (x : ℕ). at + x ≤ length s) (ap length_of e ∙ known_length k n h) l
