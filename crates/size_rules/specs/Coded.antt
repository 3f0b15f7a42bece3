-- A session with one size code (02, 2026-05: "Replay a session with one size code put into every buffer operations write, the fitted
-- codes kept").
--   with_code k v    the value v with the code k in it
--   sized k e       the event e with the code k in it
--   sized_all k es   the session es with it
use Rattle.std.specs.Prelude.{ℕ, ◌+◌, ◌*◌, ◌/◌, cond, List, [], ◌∷◌, eqb}
use Rattle.rules.specs.declared.Event.{Event}
use Rattle.rules.specs.declared.Event.TheVariants.{PowerUp as power_up, Write as write, Read as read, Signal as signal}

-- D3..0 are the code; the other bits are kept
abbrev pub with_code : ℕ → ℕ → ℕ
with_code k v = v / 16 * 16 + k

-- "every buffer operations write": each write to 0Ch, one that is refused too. The code 15 that power-up and initialise set is no write
-- and stays until the next write that is accepted (DECISIONS 108).
unfoldable pub sized : ℕ → Event → Event
sized k (power_up x) = power_up x
sized k (write o v) = write o (cond (eqb o 0x0C) (with_code k v) v)
sized k (read o) = read o
sized k (signal x) = signal x

unfoldable pub sized_all : ℕ → List Event → List Event
sized_all k [] = []
sized_all k (e ∷ es) = sized k e ∷ sized_all k es
