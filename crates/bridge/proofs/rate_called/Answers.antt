-- A rate question is looked at if its lengths are right; then its figures are those of the record that the row says.
use Prim.Native.Nat.{ℕ}
use mathlib.Core.Path.{◌≡◌, refl, sym, ap, ◌∙◌}
use mathlib.Core.Bool.{false}
use mathlib.Core.List.{List}
use native.Mathlib.Omega.{arith}
use borrow.Author.Tests.{eq-eqb, ne_eqb}
use lib.Dec.{eqb}
use lib.ListN.{length}
use Rattle.rules.specs.Rates.{rates}
use Rattle.rows.specs.Reading.{board_at}
use Rattle.bridge.specs.Calls.{rate_status, figures_row, figures_left}
use Rattle.bridge.specs.Promises.{RateCalled}
use Rattle.bridge.proofs.Calls.{read_whole}
use Rattle.bridge.proofs.rate_called.Goals as goal

not_understood : (r f : List ℕ) (n : ℕ) → rate_status (length r) (length f) ≡ n → eqb n 0 ≡ false → RateCalled r f n f
unfolding figures_left
not_understood r f n p z = record { understood = sym p; figures = rw (p, z) }

understood : (r f f' : List ℕ) → rate_status (length r) (length f) ≡ 0 → f' ≡ figures_row (rates (board_at r)) → RateCalled r f 0 f'
unfolding figures_left
understood r f f' z e = record { understood = sym z; figures = rw z e }

pub returns-then-other : goal.returns-then-other
unfolding rate_status
returns-then-other c = not_understood _ _ 1 (rw (ne_eqb _ _ c.if-other.true)) refl

pub returns-then-misfit : goal.returns-then-misfit
unfolding rate_status
returns-then-misfit c =
    let room : eqb (length c.args.figures.now) 3 ≡ false = ne_eqb _ _ (λ k. omega arith) in
    not_understood _ _ 3 (rw (eq-eqb _ _ c.if-other.false, room)) refl

pub returns : goal.returns
unfolding rate_status
returns c =
    let long = c.if-other.false in
    understood _ _ _ (rw (eq-eqb _ _ long, eq-eqb _ _ c.if-misfit.false))
    (c.copy_from_slice.ensures.after ∙ c.figures_row.ensures
    ∙ ap figures_row (c.rate.ensures.told ∙ ap rates (read_whole _ _ long c.board_at.ensures)))
