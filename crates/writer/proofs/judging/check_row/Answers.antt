-- `check_row` meets its contract: its tests are those of the rule, in its order, and a good row's fields have as many bytes as its length
-- says, but for the kind.
use mathlib.Core.Path.{◌≡◌, sym, ap, ◌∙◌}
use native.Mathlib.Omega.{arith}
use borrow.Author.Rules.{rules}
use lib.ListN.{length}
use Rattle.std.proofs.lemmas.Result.{err_from_is_err_and}
use Rattle.file_rules.specs.File.{length_of}
use Rattle.file_rules.specs.Row.{field}
use Rattle.file_rules.specs.Writing.{row_refusal}
use Rattle.file_rules.proofs.Lengths.{length_small}
use Rattle.writer.specs.Written.{refusal_number}
use Rattle.writer.proofs.GoodRows.{row_bytes_length, unknown_refused, kind_long, misfit_refused, fitting_good}
use Rattle.writer.proofs.judging.check_row.Goals as goal

pub returns-in_err-kind : goal.returns-in_err-kind
unfolding refusal_number
returns-in_err-kind c =
    let p = err_from_is_err_and c.from_residual.result c.from_residual.ensures.1 in
    rw (p.1, p.2) (unknown_refused _ c.in_err-kind.ensures)

pub returns-then-not-fits_widths : goal.returns-then-not-fits_widths
unfolding refusal_number
returns-then-not-fits_widths c = misfit_refused _ _ c.in_ok-kind.ensures (sym c.fits_widths.ensures ∙ c.if-not-fits_widths.true)

pub overflow_sub-result : goal.overflow_sub-result
overflow_sub-result c = omega (arith, c.length.ensures.told, ap length_of c.in_ok-kind.ensures, kind_long c.args.row.now c.in_ok-kind.kind c.in_ok-kind.ensures)

pub returns : goal.returns
returns c =
    let row = c.args.row.now in
    let six : length row ≡ 6 = search rules in
    let good : row_refusal row ≡ 0 = fitting_good row _ c.in_ok-kind.ensures (sym c.fits_widths.ensures ∙ c.if-not-fits_widths.false) in
    let told : c.length.result ≡ length_of (field row 0) = c.length.ensures.told ∙ ap length_of c.in_ok-kind.ensures in
    record {
      good = good;
      small = omega (arith, told, length_small (field row 0));
      long = omega (arith, told, row_bytes_length row six good, kind_long row c.in_ok-kind.kind c.in_ok-kind.ensures);
    }
