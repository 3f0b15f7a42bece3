-- What is told of sizes is their own where the fitted code is in range.
use Prim.Native.Nat.{ℕ, ◌≤◌}
use mathlib.Core.Path.{◌≡◌, ap, ◌∙◌}
use native.Mathlib.Nat.{min-eq_left}
use Rattle.rules.specs.declared.Size.{Size}
use Rattle.rules.specs.declared.Board.{Board}
use Rattle.rules.specs.Record.{depth_of, depth}
use Rattle.rules.specs.Told.{Told}
use Rattle.record.specs.Capped.{capped, capped_board}

pub depth_told : (b : Board) (r : ℕ) → Told (depth (capped_board b)) r → b.size.fitted ≤ 15 → r ≡ depth b
depth_told b r p h = p.told ∙ ap depth_of (min-eq_left h)

pub capped_same : (s : Size) → s.fitted ≤ 15 → capped s ≡ s
capped_same s h = λ i. record { fitted = min-eq_left h i; code = s.code }

pub board_same : (b : Board) → b.size.fitted ≤ 15 → capped_board b ≡ b
board_same b h = λ i. record { core = b.core; size = capped_same b.size h i; request = b.request; ring = b.ring }
