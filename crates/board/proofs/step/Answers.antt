-- Refused, or done.
use mathlib.Core.Path.{refl, sym}
use Rattle.rules.specs.Record.{state_of}
use Rattle.board.proofs.Whole.{refused_stepped}
use Rattle.board.proofs.step.Goals as goal

pub done-requires : goal.done-requires
done-requires c = sym (c.in-Ok.ensures.told _ refl)

pub returns-in-Err : goal.returns-in-Err
returns-in-Err c = refused_stepped (state_of c.args.b c.args.memory.now) c.args.e _ (c.in-Err.ensures.told _ refl)
