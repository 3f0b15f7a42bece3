-- Whole sessions: each event applied to what the one before left, refused or not.
use Rattle.std.specs.Prelude.{List, [], ◌∷◌}
use Rattle.rules.specs.Types.{Event}
use Rattle.rules.specs.Record.{State}
use Rattle.rules.specs.Step.{Outcome, step}

unfoldable pub outcomes : State → List Event → List Outcome
outcomes s [] = []
outcomes s (e ∷ es) = step s e ∷ outcomes (step s e).state es

-- the state that a session leaves
unfoldable pub after : State → List Event → State
after s [] = s
after s (e ∷ es) = after (step s e).state es
