-- One event on two boards that differ in their room alone.
--   Related s s'         their cores and stored values are equal, and the second's codes are never lower
--   Together s s' o o'   what one event does to both: o and o' are its outcomes on s and s'
use Rattle.std.specs.Prelude.{◌≡◌, ◌≢◌, true}
use Rattle.rules.specs.declared.Settings.{Settings}
use Rattle.rules.specs.declared.Event.{Event}
use Rattle.rules.specs.declared.Event.TheVariants.{PowerUp as power_up}
use Rattle.rules.specs.Record.{State, stored, sound_core}
use Rattle.rules.specs.Step.{Outcome, step}
use Rattle.rules.specs.Laws.Sizes.{◌⊑◌}
use Rattle.laws.specs.Kept.{Fit}
use Rattle.demand3.specs.Demand3.{NeverLower, NoQuarter, PowerUpAlike}

pub record Related (s s' : State) : Type 0 where
  pub core : s.board.core ≡ s'.board.core
  pub size : s.board.size ⊑ s'.board.size
  pub lists : stored s ≡ stored s'
  -- where the core is sound, the stored values have their places
  pub fit : sound_core s.board.core ≡ true → Fit s
  pub fit' : sound_core s'.board.core ≡ true → Fit s'

pub record Together (s s' : State) (o o' : Outcome) : Type 0 where
  pub refusal : o.answer.refusal ≡ o'.answer.refusal
  pub moved : o.answer.moved ≡ o'.answer.moved
  pub fate : o.answer.fate ≡ o'.answer.fate
  pub related : Related o.state o'.state
  pub request : NoQuarter s → s.board.request ≡ s'.board.request → o.state.board.request ≡ o'.state.board.request

-- An event that loses nothing to a full buffer on the first board does the same to both. A power-up must be answered alike.
abbrev pub Event-together : Type 0
Event-together =
    (s s' : State) (e e' : Event)
    → NeverLower e e'
    → Related s s'
    → PowerUpAlike e (step s e) (step s' e')
    → (step s e).answer.fate ≢ 2
    → Together s s' (step s e) (step s' e')

-- Two accepted power-ups relate any two states.
abbrev pub Power-up-together : Type 0
Power-up-together =
    (s s' : State) (x x' : Settings)
    → NeverLower (power_up x) (power_up x')
    → (step s (power_up x)).answer.refusal ≡ 0
    → (step s' (power_up x')).answer.refusal ≡ 0
    → Together s s' (step s (power_up x)) (step s' (power_up x'))
