-- Sizes that can be reckoned with: a fitted code above 15, as no sound record has, counts as 15.
--   capped s        the sizes s
--   capped_board b   the board b
use Rattle.std.specs.Prelude.{min}
use Rattle.rules.specs.declared.Size.{Size}
use Rattle.rules.specs.declared.Board.{Board}

abbrev pub capped : Size → Size
capped s = record { fitted = min s.fitted 15; code = s.code }

abbrev pub capped_board : Board → Board
capped_board b = record { core = b.core; size = capped b.size; request = b.request; ring = b.ring }
