-- What an accepted clock is to do.
--   Sober c         the core's mask and cursor are those of at most twenty channels
--   serving_of c n   what it is to do, n values being stored
use Rattle.std.specs.Prelude.{ℕ, ◌≤◌, ◌<◌, ◌^◌, Bool, cond, ◌&&◌, eqb, leb, ltb, replicate}
use Rattle.rules.specs.declared.Core.{Core}
use Rattle.rules.specs.Clocks.{closed, next_channel, moving, cursor_after}
use Rattle.channels.specs.declared.Serving.{Serving}

pub record Sober (c : Core) : Type 0 where
  pub mask : c.outputs.mask < 2 ^ 20
  pub cursor : c.outputs.cursor ≤ 20

-- the mask and the cursor are in range
unfoldable pub sober : Core → Bool
sober c = ltb c.outputs.mask (2 ^ 20) && leb c.outputs.cursor 20

-- how many of n stored values an accepted clock moves: `moving` of the rules asks their list for its length alone, so any n will do
unfoldable pub to_move : Core → ℕ → ℕ
to_move c n = cond (sober c) (moving c (replicate n 0)) 0

-- the channels that it serves, as a mask
unfoldable pub served_by : Core → ℕ
served_by c = cond c.control.simultaneous c.outputs.mask (2 ^ next_channel c)

unfoldable pub serving_of : Core → ℕ → Serving
serving_of c n =
    record {
      mask = cond (eqb (to_move c n) 0) 0 (served_by c);
      moved = to_move c n;
      cursor = cond (eqb (to_move c n) 0) c.outputs.cursor (cursor_after c);
      again = closed c;
    }
