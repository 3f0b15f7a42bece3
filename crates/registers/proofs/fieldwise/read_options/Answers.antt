use mathlib.Core.Path.{sym}
use Rattle.rules.proofs.Registers.{fields_read}
use Rattle.record.specs.Capped.{capped_board}
use Rattle.registers.proofs.fieldwise.read_options.Goals as goal

pub returns : goal.returns
returns c = sym (fields_read (capped_board c.args.b)).assembly
