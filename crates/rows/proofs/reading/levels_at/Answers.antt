-- Twenty levels, each from a place of its own.
use Prim.Native.Nat.{◌+◌, ◌%◌, ◌<◌}
use mathlib.Core.Path.{sym, ◌∙◌}
use native.Mathlib.Omega.{arith}
use borrow.Author.Rules.{rules}
use lib.Seq.{ext_get_or}
use Rattle.rules.specs.Record.{level_span}
use Rattle.rows.specs.Places as places
use Rattle.rows.specs.Reading.{at, levels_at}
use Rattle.rows.proofs.FromFn.{made_at}
use Rattle.rows.proofs.RowLevels.{row_levels_length, levels_each}
use Rattle.rows.proofs.reading.levels_at.Goals as goal

pub returns : goal.returns
returns c =
    let row = c.args.row.now in
    let made = c.from_fn.ensures.items in
    ext_get_or 0 c.from_fn.result (levels_at row) (made.long ∙ sym (row_levels_length row c.told-row)) (λ i l.
    let below : i < places.level_count = omega (arith, made.long) in
    made_at _ _ (λ i. at row (places.levels + i) % level_span) (λ i y q k. search rules) _ _ made i below ∙ sym (levels_each row i below))
