-- The loop stores the levels one after another; that there are twenty is known of the array.
use Rattle.rows.specs.Places as places
use Rattle.rows.proofs.Stores.{Stores}
use Rattle.rows.proofs.writing.put_levels.Given as goal

abbrev pub invariant-loop-i : goal.invariant-loop-i
invariant-loop-i l = Stores l.initial.row places.levels l.levels l.i l.row
