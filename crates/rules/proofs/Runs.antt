-- Runs: what they start from, their beginnings, and what they keep.
use Prim.Native.Nat.{zero, suc}
use mathlib.Core.Path.{refl, ap}
use mathlib.Core.List.{List, [], ◌∷◌}
use Rattle.rules.specs.Step.{Outcome, step}
use Rattle.rules.specs.Session.{outcomes, after}
use Rattle.rules.specs.Laws.Runs.{Start-lent, After-append, Outcomes-append, Outcomes-take, After-kept}

pub start_lent : Start-lent
start_lent m = record { board = refl; memory = refl }

pub after_append : After-append
unfolding after
after_append s [] fs = refl
after_append s (e ∷ es) fs = after_append (step s e).state es fs

pub outcomes_append : Outcomes-append
unfolding outcomes after
outcomes_append s [] fs = refl
outcomes_append s (e ∷ es) fs = ap (λ (l : List Outcome). step s e ∷ l) (outcomes_append (step s e).state es fs)

pub outcomes_take : Outcomes-take
unfolding outcomes
outcomes_take s zero es = refl
outcomes_take s (suc n) [] = refl
outcomes_take s (suc n) (e ∷ es) = ap (λ (l : List Outcome). step s e ∷ l) (outcomes_take (step s e).state n es)

pub after_kept : After-kept
unfolding after
after_kept R k s [] r = r
after_kept R k s (e ∷ es) r = after_kept R k (step s e).state es (k s e r)
