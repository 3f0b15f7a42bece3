-- The levels are what their function reads; all else is read in place.
use Rattle.rows.specs.Reading.{core_at, board_at}
use Rattle.rows.proofs.reading.board_in.Goals as goal

pub returns : goal.returns
unfolding core_at board_at
returns c =
    let b = board_at c.args.row.now in
    λ i. record b { core = record b.core { outputs = record b.core.outputs { levels = c.levels_at.ensures i } } }
