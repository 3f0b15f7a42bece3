-- Whether the buffer is closed to loads, as facts.
use Rattle.std.specs.Prelude.{◌≡◌, true, false}
use Rattle.rules.specs.Types.{Core}

-- 01: "closed = circular and not opened"
pub record Closed (c : Core) : Type 0 where
  pub circular : c.mode.circular ≡ true
  pub unopened : c.load.opened ≡ false
