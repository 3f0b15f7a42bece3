-- `put_row` meets its contract: by the kind, what is put is the record of the event of a good row.
use mathlib.Core.Path.{◌≡◌, sym, ap, ◌∙◌}
use native.Mathlib.Omega.{arith}
use borrow.Author.Rules.{rules}
use lib.ListN.{length}
use Rattle.file_rules.proofs.Joined.{renamed}
use Rattle.kinds.specs.Numbers.{kind_number}
use Rattle.writer.proofs.GoodRows.{unknown_refused, signal_row}
use Rattle.writer.proofs.records.put_row.Goals as goal

pub unreachable-requires : goal.unreachable-requires
unreachable-requires c = absurd (omega (arith, c.requires.good, unknown_refused c.args.row.now c.in_default.ensures))

pub returns-in-Signal : goal.returns-in-Signal
returns-in-Signal c =
    let six : length c.args.row.now ≡ 6 = search rules in
    renamed (signal_row _ c.args.row.now six c.requires.good (sym (ap kind_number c.in-Signal.is) ∙ c.in-Ok.ensures)) c.put_record-in-Signal.ensures
