-- The table holds, by computation: the numbers of its wrong rows, counted from 0, are none.
use Prim.Native.Nat.{ℕ, ◌+◌}
use mathlib.Core.Path.{◌≡◌, refl, ap}
use mathlib.Core.Bool.{Bool, true, false, ◌&&◌, cond, false≢true}
use mathlib.Core.List.{List, [], ◌∷◌, cons≢nil}
use borrow.Author.Tests.{eqb-true}
use lib.Dec.{eqb}
use Rattle.rules.proofs.Bench.{alike, alike_equal}
use Rattle.rules.proofs.Choice.{and_both}
use Rattle.hex_rules.specs.Hex.{Stop, whole, bad, HexReading, hex_worth, byte_of, mark_of, hex_from, opening_of, hex_reading}
use Rattle.hex_rules.specs.HexTable.{HexRow, AllRead, none, next, hex_table, Table-read}

unfoldable same_stop : Stop → Stop → Bool
same_stop whole whole = true
same_stop whole (bad q) = false
same_stop (bad p) whole = false
same_stop (bad p) (bad q) = eqb p q

stop_equal : (x y : Stop) → same_stop x y ≡ true → x ≡ y
unfolding same_stop
stop_equal whole whole h = refl
stop_equal whole (bad q) h = absurd (false≢true h)
stop_equal (bad p) whole h = absurd (false≢true h)
stop_equal (bad p) (bad q) h = ap bad (eqb-true p q h)

unfoldable right : HexReading → HexRow → Bool
right x r = alike x.bytes r.bytes && same_stop x.stop r.stop

right_read : (x : HexReading) (r : HexRow) → right x r ≡ true → x ≡ record { bytes = r.bytes; stop = r.stop }
unfolding right
right_read x r h =
    let t = and_both (alike x.bytes r.bytes) (same_stop x.stop r.stop) h in
    λ i. record { bytes = alike_equal _ _ t.0 i; stop = stop_equal _ _ t.1 i }

unfoldable wrong_rows : ℕ → List HexRow → List ℕ
wrong_rows k [] = []
wrong_rows k (r ∷ rs) = let rest = wrong_rows (k + 1) rs in cond (right (hex_reading r.text) r) rest (k ∷ rest)

none_wrong : (k : ℕ) (rs : List HexRow) → wrong_rows k rs ≡ [] → AllRead rs
unfolding wrong_rows
none_wrong k [] h = none
none_wrong k (r ∷ rs) h = go (right (hex_reading r.text) r) refl h (none_wrong (k + 1) rs)
  where
    go : (t : Bool) → right (hex_reading r.text) r ≡ t
        → cond t (wrong_rows (k + 1) rs) (k ∷ wrong_rows (k + 1) rs) ≡ []
        → (wrong_rows (k + 1) rs ≡ [] → AllRead rs)
        → AllRead (r ∷ rs)
    go true e n rest = next (right_read _ r e) (rest n)
    go false e n rest = absurd (cons≢nil n)

none_are : wrong_rows 0 hex_table ≡ []
unfolding wrong_rows right same_stop alike hex_table hex_worth byte_of mark_of hex_from opening_of hex_reading
none_are = refl

pub table_read : Table-read
table_read = none_wrong 0 hex_table none_are
