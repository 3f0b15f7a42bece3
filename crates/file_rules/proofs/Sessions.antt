-- A file that ends in a refusal is refused so at that place; and the place of a refusal is in the file.
use Prim.Native.Nat.{ℕ, zero, suc, ◌≤◌}
use mathlib.Core.Path.{◌≡◌, subst}
use mathlib.Core.List.{List}
use native.Mathlib.Omega.{arith}
use lib.ListN.{length}
use Rattle.file_rules.specs.Item.{End}
use Rattle.file_rules.specs.Item.{File, Refused}
use Rattle.file_rules.specs.Item.{Item}
use Rattle.file_rules.specs.Item.{Got, Over}
use Rattle.file_rules.specs.File.{item_at, on_item, from, session}
use Rattle.file_rules.specs.Laws.{Record, ended, half_length, short_body, length_zero, unknown, length_wrong, event, ItemGiven, bad_version, first, later, Session-refused}
use Rattle.file_rules.proofs.Given.{record_given, item_given, given_item}

-- what an item says of the place that it names
abbrev There : List ℕ → Item → Type 0
There s (Got e next) = Unit {0}
There s (Over File) = Unit {0}
There s (Over (Refused why p)) = item_at s p ≡ Over (Refused why p)

record_there : (s : List ℕ) (at : ℕ) (i : Item) → Record s (suc at) i → There s i
unfolding item_at
record_there s at i (ended h) = tt
record_there s at i (half_length h k) = record_given s (suc at) _ (half_length h k)
record_there s at i (short_body h k) = record_given s (suc at) _ (short_body h k)
record_there s at i (length_zero w z) = record_given s (suc at) _ (length_zero w z)
record_there s at i (unknown w z u) = record_given s (suc at) _ (unknown w z u)
record_there s at i (length_wrong n w z k e) = record_given s (suc at) _ (length_wrong n w z k e)
record_there s at i (event w k) = tt

given_there : (s : List ℕ) (at : ℕ) (i : Item) → ItemGiven s at i → There s i
given_there s at i (bad_version h) = given_item s 0 _ (bad_version h)
given_there s at i (first h j r) = record_there s 0 j r
given_there s at i (later k j r) = record_there s k j r

ends_there : (f : ℕ) (s : List ℕ) (at : ℕ) → There s (Over (from f s at).end)
unfolding from
ends_there zero s at = tt
ends_there (suc f) s at = go (ends_there f s) (item_at s at) (given_there s at _ (item_given s at))
  where
    go : ((next : ℕ) → There s (Over (from f s next).end)) → (i : Item) → There s i → There s (Over (on_item (from f s) i).end)
    go rest (Got e next) t = rest next
    go rest (Over x) t = t

pub session_refused : Session-refused
unfolding session
session_refused s why p h = subst (λ (x : End). There s (Over x)) h (ends_there (suc (length s)) s 0)

-- ---- The place is in the file

abbrev pub PlaceInFile : List ℕ → Item → Type 0
PlaceInFile s (Got e next) = Unit {0}
PlaceInFile s (Over File) = Unit {0}
PlaceInFile s (Over (Refused why p)) = p ≤ length s

record_within : (s : List ℕ) (at : ℕ) (i : Item) → Record s at i → PlaceInFile s i
record_within s at i (ended h) = tt
record_within s at i (half_length h k) = omega arith
record_within s at i (short_body h k) = omega arith
record_within s at i (length_zero w z) = omega arith
record_within s at i (unknown w z u) = omega arith
record_within s at i (length_wrong n w z k e) = omega arith
record_within s at i (event w k) = tt

pub given_within : (s : List ℕ) (at : ℕ) (i : Item) → ItemGiven s at i → PlaceInFile s i
given_within s at i (bad_version h) = omega arith
given_within s at i (first h j r) = record_within s 1 j r
given_within s at i (later k j r) = record_within s (suc k) j r
