-- The bench table and the examples hold, by computation; cases of other crates are shown so too (`cases_shown`).
use Prim.Native.Nat.{ℕ}
use mathlib.Core.Path.{◌≡◌, refl, ap₂}
use mathlib.Core.Bool.{Bool, true, false, ◌&&◌, false≢true}
use mathlib.Core.List.{List, [], ◌∷◌}
use borrow.Author.Tests.{eqb-true}
use lib.Dec.{eqb}
use Rattle.rules.specs.Types.{Event}
use Rattle.rules.specs.Bench.{seen, is_read, is_load, is_signal, bit_read, fates, moved, levels, held, rate, Sight, Case, table, AllShow, AllCases, none, next, Bench}
use Rattle.rules.specs.Examples.{entries, entries_over_junk, readings, all_moved, refusals, examples, Examples}
use Rattle.rules.proofs.Choice.{and_both}
use Rattle.rules.proofs.Open.{rules_open}

unfoldable pub alike : List ℕ → List ℕ → Bool
alike [] [] = true
alike [] (y ∷ ys) = false
alike (x ∷ xs) [] = false
alike (x ∷ xs) (y ∷ ys) = eqb x y && alike xs ys

pub alike_equal : (xs ys : List ℕ) → alike xs ys ≡ true → xs ≡ ys
unfolding alike
alike_equal [] [] h = refl
alike_equal [] (y ∷ ys) h = absurd (false≢true h)
alike_equal (x ∷ xs) [] h = absurd (false≢true h)
alike_equal (x ∷ xs) (y ∷ ys) h = go (eqb x y) refl h (alike_equal xs ys)
  where
    go : (t : Bool) → eqb x y ≡ t → t && alike xs ys ≡ true → (alike xs ys ≡ true → xs ≡ ys) → x ∷ xs ≡ y ∷ ys
    go true e k r = ap₂ {C = List ℕ} (λ a l. a ∷ l) (eqb-true x y e) (r k)
    go false e k r = absurd (false≢true k)

unfoldable pub showing : List Event → List Sight → Bool
showing es [] = true
showing es (x ∷ xs) = alike (x.look es) x.numbers && showing es xs

unfoldable pub all_true : List Case → Bool
all_true [] = true
all_true (c ∷ cs) = showing c.session c.sights && all_true cs

shown : (es : List Event) (xs : List Sight) → showing es xs ≡ true → AllShow es xs
unfolding showing
shown es [] h = none
shown es (x ∷ xs) h =
    let t = and_both (alike (x.look es) x.numbers) (showing es xs) h in
    next (alike_equal _ _ t.0) (shown es xs t.1)

pub cases_shown : (cs : List Case) → all_true cs ≡ true → AllCases cs
unfolding all_true
cases_shown [] h = none
cases_shown (c ∷ cs) h =
    let t = and_both (showing c.session c.sights) (all_true cs) h in
    next (shown c.session c.sights t.0) (cases_shown cs t.1)

table_true : all_true table ≡ true
unfolding all_true showing alike table seen is_read is_load is_signal bit_read fates moved levels held rate rules_open
table_true = refl

pub bench : Bench
bench = cases_shown table table_true

examples_true : all_true examples ≡ true
unfolding all_true showing alike examples seen is_read is_signal bit_read moved levels held entries entries_over_junk readings all_moved refusals rules_open
examples_true = refl

pub examples_shown : Examples
examples_shown = cases_shown examples examples_true
