-- What the code takes by itself of an event.
--   lost_by n c   the core c after a load of the fate n
use Rattle.std.specs.Prelude.{ℕ, ◌||◌, eqb}
use Rattle.board.specs.Types.{Core}
use Rattle.rules.specs.Parts.{with_lost}

unfoldable pub lost_by : ℕ → Core → Core
lost_by n c = with_lost (record { full = c.lost.full || eqb n 2; closed = c.lost.closed || eqb n 3 }) c
