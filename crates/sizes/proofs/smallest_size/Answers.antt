use mathlib.Core.Path.{sym, ap, ◌∙◌}
use Rattle.std.proofs.lemmas.Result.{err_from_is_err_and}
use Rattle.file_rules.specs.Item.{end_of}
use Rattle.sizes.proofs.Answers.{file_refused, file_searched}
use Rattle.sizes.proofs.smallest_size.Goals as goal

pub returns-in_err-file_end : goal.returns-in_err-file_end
returns-in_err-file_end c =
    let x = c.in_err-file_end.field-0.0 in
    let p = err_from_is_err_and c.from_residual.result c.from_residual.ensures.1 in
    rw (p.1, p.2) (file_refused _ _ x.fault x.place (sym c.file_end.ensures ∙ ap end_of c.in_err-file_end.was))

pub returns : goal.returns
returns c =
    rw c.ok_or.ensures.value (file_searched _ _ _ _ (sym c.file_end.ensures ∙ ap end_of c.in_ok-file_end.was) c.lowest_code.ensures)
