-- What stands at the start of a file, by its first byte.
use Prim.Native.Nat.{ℕ}
use mathlib.Core.Path.{◌≡◌, refl}
use mathlib.Core.Logic.{◌≢◌}
use mathlib.Core.List.{List, [], ◌∷◌}
use borrow.Author.Tests.{eq-eqb}
use Rattle.std.specs.Prelude.{slice_get, unwrap_or}
use Rattle.rules.proofs.Choice.{cond_true}
use Rattle.file_rules.specs.declared.Fault.TheVariants.{Version}
use Rattle.file_rules.specs.Item.{Refused, Over}
use Rattle.file_rules.specs.File.{byte_at, record_at, item_at}
use Rattle.file_rules.specs.Laws.{bad_version}
use Rattle.file_rules.proofs.Given.{given_item}

-- an empty file's first byte counts as 0
pub first_byte : (s : List ℕ) → unwrap_or (slice_get s 0) 0 ≡ byte_at s 0
first_byte [] = refl
first_byte (x ∷ xs) = refl

pub not_opened : (s : List ℕ) → byte_at s 0 ≢ 1 → item_at s 0 ≡ Over (Refused Version 0)
not_opened s h = given_item s _ _ (bad_version h)

pub opened : (s : List ℕ) → byte_at s 0 ≡ 1 → item_at s 0 ≡ record_at s 1
unfolding item_at
opened s h = cond_true _ _ _ (eq-eqb _ _ h)
