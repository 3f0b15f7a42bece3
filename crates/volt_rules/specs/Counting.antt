-- Which levels count. 02: "Levels right after an accepted power-up and after each later event count; another accepted power-up starts
-- afresh."
--   counted w s es   what counts after the events es, from the state s on, where w counted before
use Rattle.std.specs.Prelude.{ℕ, Bool, true, false, ◌&&◌, cond, List, [], ◌∷◌, eqb}
use Rattle.rules.specs.declared.Event.{Event}
use Rattle.rules.specs.declared.Event.TheVariants.{PowerUp as power_up, Write as write, Read as read, Signal as signal}
use Rattle.rules.specs.declared.Board.{Board}
use Rattle.rules.specs.Record.{State}
use Rattle.rules.specs.Step.{Outcome, step}

-- The levels that count, twenty each time, the latest first; and the range of the power-up that they follow.
pub record Counted : Type 0 where
  pub range : ℕ
  pub levels : List (List ℕ)

-- before the first accepted power-up
abbrev pub nothing_counted : Counted
nothing_counted = record { range = 0; levels = [] }

-- right after an accepted power-up
abbrev pub freshly : Board → Counted
freshly b = record { range = b.core.options.range; levels = b.core.outputs.levels ∷ [] }

-- "after each later event", refused or not
unfoldable pub also : List ℕ → List (List ℕ) → List (List ℕ)
also x [] = []
also x (y ∷ ys) = x ∷ y ∷ ys

unfoldable pub is_power_up : Event → Bool
is_power_up (power_up x) = true
is_power_up (write o v) = false
is_power_up (read o) = false
is_power_up (signal x) = false

-- "an accepted power-up". Initialise is none, and a power-up that is refused starts nothing and keeps the range (DECISIONS 94).
abbrev pub starts_afresh : Event → Outcome → Bool
starts_afresh e o = is_power_up e && eqb o.answer.refusal 0

unfoldable pub count_event : Event → Outcome → Counted → Counted
count_event e o w =
    cond (starts_afresh e o) (freshly o.state.board)
    (record { range = w.range; levels = also o.state.board.core.outputs.levels w.levels })

unfoldable pub counted : Counted → State → List Event → Counted
counted w s [] = w
counted w s (e ∷ es) = counted (count_event e (step s e) w) (step s e).state es
