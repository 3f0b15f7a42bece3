-- The tables of whole files, by computation.
use mathlib.Core.Path.{◌≡◌, refl}
use mathlib.Core.Bool.{true}
use borrow.Author.Tests.{eqb-true}
use lib.Dec.{eqb}
use Rattle.rules.proofs.Bench.{alike, alike_equal}
use Rattle.volt_rules.specs.Table.{table_refusal, table_channels, table_memory}
use Rattle.volt_rules.specs.Examples.{scaled}
use Rattle.volt_rules.specs.FileTables.{FileTable, table_numbers, file_tables, Gets, none, next, Files-shown}
use Rattle.volt_rules.proofs.Open.{tables_open}

shown : {x : FileTable}
    → eqb (table_refusal x.bytes x.lent) x.refusal ≡ true
    → alike (table_numbers (table_channels x.bytes x.lent)) x.numbers ≡ true
    → alike (table_memory x.bytes x.lent) x.left ≡ true
    → Gets x
shown r n l = record { refusal = eqb-true _ _ r; numbers = alike_equal _ _ n; left = alike_equal _ _ l }

-- row by row, so that a wrong one is told by its place
pub files_shown : Files-shown
unfolding alike file_tables table_numbers scaled tables_open
files_shown =
    next (shown refl refl refl)
    (next (shown refl refl refl)
    (next (shown refl refl refl)
    (next (shown refl refl refl)
    (next (shown refl refl refl)
    (next (shown refl refl refl)
    (next (shown refl refl refl)
    (next (shown refl refl refl)
    (next (shown refl refl refl)
    (next (shown refl refl refl)
    (next (shown refl refl refl)
    (next (shown refl refl refl)
    (next (shown refl refl refl) none))))))))))))
