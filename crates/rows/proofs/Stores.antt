-- A loop that stores the elements of a list one after another, and what it leaves.
use Prim.Native.Nat.{ℕ, ◌+◌, ◌≤◌, ◌<◌}
use mathlib.Core.Path.{◌≡◌, sym, ap, ◌∙◌}
use mathlib.Core.List.{List, ◌++◌, append-nil}
use native.Mathlib.Nat.{le_antisymm}
use native.Mathlib.Numerals.{add-one}
use native.Mathlib.Omega.{arith}
use lib.ListN.{length, get_or, drop, take, set, drop_of_length-le}
use lib.Seq.{sets, sets-eq, paste, paste-zero, paste-suc, length-paste, take-length}

-- the invariant: row' is `row` with the first i entries of `part` stored from the entry `at` on
pub record Stores (row : List ℕ) (at : ℕ) (part : List ℕ) (i : ℕ) (row' : List ℕ) : Type 0 where
  pub fits : at + length part ≤ length row
  pub most : i ≤ length part
  pub so_far : row' ≡ paste row at part i

pub stored_none : (row : List ℕ) (at : ℕ) (part : List ℕ) → at + length part ≤ length row → Stores row at part 0 row
stored_none row at part h = record { fits = h; most = omega arith; so_far = paste-zero row at part }

module _ {row : List ℕ} {at : ℕ} {part : List ℕ} {i : ℕ} {row' : List ℕ} (h : Stores row at part i row') where
  pub stored_length : length row' ≡ length row
  stored_length = ap length h.so_far ∙ length-paste row at part i (omega arith) h.most

  pub stored_next : i < length part → (v : ℕ) → v ≡ get_or part i 0 → Stores row at part (i + 1) (set row' (at + i) v)
  stored_next l v e =
      record { fits = h.fits; most = omega arith; so_far = rw (h.so_far, e, add-one i) (paste-suc row at part i 0 (omega arith) l) }

  pub stored_all : length part ≤ i → row' ≡ sets row at part
  stored_all l =
      h.so_far ∙ ap (paste row at part) (le_antisymm h.most l)
      ∙ ap (λ (p : List ℕ). take at row ++ p ++ drop (at + length part) row) (take-length part) ∙ sym (sets-eq part row at h.fits)

-- stores over the whole length leave nothing of what was there
pub sets_whole : (row part : List ℕ) → length part ≡ length row → sets row 0 part ≡ part
sets_whole row part h =
    sets-eq part row 0 (omega arith) ∙ ap (λ (l : List ℕ). part ++ l) (drop_of_length-le row {i = 0 + length part} (omega arith)) ∙ append-nil part
