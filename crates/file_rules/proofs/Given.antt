-- What stands at a place is given exactly when 01 says so; and the next record stands further on.
use Prim.Native.Nat.{ℕ, zero, suc, ◌+◌, ◌≤◌}
use mathlib.Core.Path.{◌≡◌, refl, sym, ◌∙◌, subst}
use mathlib.Core.Logic.{◌≢◌}
use mathlib.Core.List.{List}
use native.Mathlib.Omega.{arith}
use borrow.Author.Tests.{le-leb, lt-leb, lt-ltb, le-ltb, leb-true, leb-false, ltb-true, ltb-false, eq-eqb, ne_eqb, eqb-true, eqb-false}
use lib.Dec.{leb, ltb, eqb}
use lib.ListN.{length}
use Rattle.rules.proofs.Choice.{cases, cond_true, cond_false}
use Rattle.file_rules.specs.Item.{Item}
use Rattle.file_rules.specs.Item.{Got, Over}
use Rattle.file_rules.specs.File.{byte_at, word_at, length_of, whole_record, record_at, item_at}
use Rattle.file_rules.specs.Laws.{Known, Whole, Record, ended, half_length, short_body, length_zero, unknown, length_wrong, event}
use Rattle.file_rules.specs.Laws.{ItemGiven, bad_version, first, later, Item-exactly, Item-grows}
use Rattle.file_rules.proofs.Lengths.{known_length, known_some, length_known, unknown_zero, zero_unknown}

-- ---- A record that is given so is the one

module _ (s : List ℕ) (at : ℕ) where
  whole : Whole s at → record_at s at ≡ whole_record s at
  unfolding record_at
  whole w =
      cond_false _ _ _ (lt-leb (length s) at (omega arith)) ∙ cond_false _ _ _ (le-ltb (length s) (at + 2) (omega arith)) ∙ cond_false _ _ _ (le-ltb _ _ w)

  pub record_given : (i : Item) → Record s at i → record_at s at ≡ i
  unfolding record_at whole_record
  record_given i (ended h) = cond_true _ _ _ (le-leb _ _ h)
  record_given i (half_length h k) = cond_false _ _ _ (lt-leb _ _ h) ∙ cond_true _ _ _ (lt-ltb _ _ k)
  record_given i (short_body h k) =
      cond_false _ _ _ (lt-leb (length s) at (omega arith)) ∙ cond_false _ _ _ (le-ltb _ _ h) ∙ cond_true _ _ _ (lt-ltb _ _ k)
  record_given i (length_zero w z) = whole w ∙ cond_true _ _ _ (eq-eqb _ _ z)
  record_given i (unknown w z u) =
      whole w ∙ cond_false _ _ _ (ne_eqb _ _ z) ∙ cond_true _ _ _ (eq-eqb _ _ (unknown_zero _ u))
  record_given i (length_wrong n w z k e) =
      let l = known_length _ _ k in
      whole w ∙ cond_false _ _ _ (ne_eqb _ _ z) ∙ cond_false _ _ _ (ne_eqb _ _ (λ h. known_some _ _ k (sym l ∙ h)))
      ∙ cond_false _ _ _ (ne_eqb _ _ (λ h. e (h ∙ l)))
  record_given i (event w k) =
      let l = known_length _ _ k in
      whole w ∙ cond_false _ _ _ (ne_eqb _ _ (known_some _ _ k)) ∙ cond_false _ _ _ (ne_eqb _ _ (λ h. known_some _ _ k (sym l ∙ h)))
      ∙ cond_true _ _ _ (eq-eqb _ _ (sym l))

  -- ---- One of them is always given

  given_whole : Whole s at → Record s at (whole_record s at)
  unfolding whole_record
  given_whole w =
      cases (Record s at) (eqb (word_at s at) 0) (λ t. length_zero w (eqb-true _ _ t)) (λ f.
      cases (Record s at) (eqb (length_of (byte_at s (at + 2))) 0)
      (λ t. unknown w (eqb-false _ _ f) (zero_unknown _ (eqb-true _ _ t)))
      (λ g. let k = length_known _ (eqb-false _ _ g) in
      cases (Record s at) (eqb (word_at s at) (length_of (byte_at s (at + 2))))
      (λ t. event w (subst (Known (byte_at s (at + 2))) (sym (eqb-true _ _ t)) k))
      (λ h. length_wrong _ w (eqb-false _ _ f) k (eqb-false _ _ h))))

  pub given_one : Record s at (record_at s at)
  unfolding record_at
  given_one =
      cases (Record s at) (leb (length s) at) (λ t. ended (leb-true _ _ t)) (λ f.
      cases (Record s at) (ltb (length s) (at + 2)) (λ t. half_length (leb-false _ _ f) (ltb-true _ _ t)) (λ g.
      cases (Record s at) (ltb (length s) (at + 2 + word_at s at))
      (λ t. short_body (ltb-false _ _ g) (ltb-true _ _ t))
      (λ h. given_whole (ltb-false _ _ h))))

-- ---- At any place

pub item_given : (s : List ℕ) (at : ℕ) → ItemGiven s at (item_at s at)
unfolding item_at
item_given s zero =
    cases (ItemGiven s 0) (eqb (byte_at s 0) 1) (λ t. first (eqb-true _ _ t) _ (given_one s 1)) (λ f. bad_version (eqb-false _ _ f))
item_given s (suc at) = later at _ (given_one s (suc at))

pub given_item : (s : List ℕ) (at : ℕ) (i : Item) → ItemGiven s at i → item_at s at ≡ i
unfolding item_at
given_item s at i (bad_version h) = cond_false _ _ _ (ne_eqb _ _ h)
given_item s at i (first h j r) = cond_true _ _ _ (eq-eqb _ _ h) ∙ record_given s 1 j r
given_item s at i (later k j r) = record_given s (suc k) j r

pub item_exactly : Item-exactly
item_exactly s at i = (λ e. subst (ItemGiven s at) e (item_given s at), given_item s at i)

-- past the start of the file it is the record's
pub item_later : (s : List ℕ) (at : ℕ) → at ≢ 0 → item_at s at ≡ record_at s at
unfolding item_at
item_later s zero h = absurd (h refl)
item_later s (suc at) h = refl

-- ---- Further on

abbrev Grows : List ℕ → ℕ → Item → Type 0
Grows s at (Got e next) = (at + 3 ≤ next) × (next ≤ length s)
Grows s at (Over x) = Unit {0}

record_grows : (s : List ℕ) (at : ℕ) (i : Item) → Record s at i → Grows s at i
record_grows s at i (ended h) = tt
record_grows s at i (half_length h k) = tt
record_grows s at i (short_body h k) = tt
record_grows s at i (length_zero w z) = tt
record_grows s at i (unknown w z u) = tt
record_grows s at i (length_wrong n w z k e) = tt
record_grows s at i (event w k) = (omega (arith, known_some _ _ k), w)

started : (s : List ℕ) (i : Item) → Grows s 1 i → Grows s 0 i
started s (Got e next) g = (omega (arith, g.0), g.1)
started s (Over x) g = tt

given_grows : (s : List ℕ) (at : ℕ) (i : Item) → ItemGiven s at i → Grows s at i
given_grows s at i (bad_version h) = tt
given_grows s at i (first h j r) = started s j (record_grows s 1 j r)
given_grows s at i (later k j r) = record_grows s (suc k) j r

pub item_grows : Item-grows
item_grows s at e next h = given_grows s at (Got e next) ((item_exactly s at (Got e next)).0 h)
