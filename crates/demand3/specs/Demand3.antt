-- Demand 3, with the order's words beside each clause:
--   "Run one session twice from power-up, the second with fitted depth and size codes never lower, every power-up accepted in both.
--   Up to any point where the first run lost nothing to a full buffer, neither has the second, and channel levels, stored values in
--   order, burst and loading states are equal after every event; where neither quarter-full interrupt is ever selected, the interrupt
--   request is equal too."
-- The runs are those of Session.antt. The two memories are any two, of any length and content.
use Rattle.std.specs.Prelude.{ℕ, ◌/◌, ◌%◌, ◌≤◌, ◌≡◌, ◌≢◌, ◌↔◌, Bool, true, not, ◌&&◌, List, [], ◌∷◌, eqb, take}
use Rattle.rules.specs.declared.Settings.{Settings}
use Rattle.rules.specs.declared.Event.{Event}
use Rattle.rules.specs.declared.Event.TheVariants.{PowerUp as power_up, Write as write, Read as read, Signal as signal}
use Rattle.rules.specs.Record.{State, stored, start}
use Rattle.rules.specs.Clocks.{closed}
use Rattle.rules.specs.Step.{Outcome, step}
use Rattle.rules.specs.Session.{outcomes, after}

-- ---- "one session twice, .. the second with fitted depth and size codes never lower"

abbrev pub refitted : ℕ → Settings → Settings
refitted d x = record { fitted = d; range = x.range; filter = x.filter; kit = x.kit; firmware = x.firmware }

-- The events of the two runs are the same, but for the fitted code of a power-up and the size code (D3..0) of a write to 0Ch.
pub data NeverLower : Event → Event → Type 0 where
  same : (e : Event) → NeverLower e e
  deeper : (x : Settings) (d : ℕ) → x.fitted ≤ d → NeverLower (power_up x) (power_up (refitted d x))
  larger : (v v' : ℕ) → v / 16 ≡ v' / 16 → v % 16 ≤ v' % 16 → NeverLower (write 0x0C v) (write 0x0C v')

pub data AllNeverLower : List Event → List Event → Type 0 where
  none : AllNeverLower [] []
  next : {e e' : Event} {es es' : List Event} → NeverLower e e' → AllNeverLower es es' → AllNeverLower (e ∷ es) (e' ∷ es')

-- ---- "every power-up accepted"

abbrev pub PowerUpAccepted : Event → Outcome → Type 0
PowerUpAccepted (power_up x) o = o.answer.refusal ≡ 0
PowerUpAccepted (write a v) o = Unit {0}
PowerUpAccepted (read a) o = Unit {0}
PowerUpAccepted (signal x) o = Unit {0}

unfoldable pub PowerUpsAccepted : State → List Event → Type 0
PowerUpsAccepted s [] = Unit {0}
PowerUpsAccepted s (e ∷ es) = PowerUpAccepted e (step s e) × PowerUpsAccepted (step s e).state es

-- ---- "lost nothing to a full buffer"

unfoldable pub NothingLost : State → List Event → Type 0
NothingLost s [] = Unit {0}
NothingLost s (e ∷ es) = ((step s e).answer.fate ≢ 2) × NothingLost (step s e).state es

-- the same as a test
unfoldable pub loses_nothing : State → List Event → Bool
loses_nothing s [] = true
loses_nothing s (e ∷ es) = not (eqb (step s e).answer.fate 2) && loses_nothing (step s e).state es

abbrev pub Lossless-test : Type 0
Lossless-test = (s : State) (es : List Event) → (loses_nothing s es ≡ true) ↔ NothingLost s es

-- ---- "neither quarter-full interrupt is ever selected": in no state of the run, from its first to its last

pub record NoQuarter (s : State) : Type 0 where
  pub low : s.board.core.control.selection ≢ 3
  pub high : s.board.core.control.selection ≢ 4

unfoldable pub NoQuarters : State → List Event → Type 0
NoQuarters s [] = NoQuarter s
NoQuarters s (e ∷ es) = NoQuarter s × NoQuarters (step s e).state es

-- ---- "channel levels, stored values in order, burst and loading states are equal"

pub record Alike (s s' : State) : Type 0 where
  pub levels : s.board.core.outputs.levels ≡ s'.board.core.outputs.levels
  pub values : stored s ≡ stored s'
  -- in progress, software-started
  pub burst : s.board.core.burst ≡ s'.board.core.burst
  -- circular; pending and opened; and so load ready, D10
  pub circular : s.board.core.mode.circular ≡ s'.board.core.mode.circular
  pub load : s.board.core.load ≡ s'.board.core.load
  pub ready : closed s.board.core ≡ closed s'.board.core

-- and beyond the order, event by event: refusal number, values moved and load fate
pub data SameAnswers : List Outcome → List Outcome → Type 0 where
  none : SameAnswers [] []
  next : {o o' : Outcome} {os os' : List Outcome}
      → o.answer.refusal ≡ o'.answer.refusal
      → o.answer.moved ≡ o'.answer.moved
      → o.answer.fate ≡ o'.answer.fate
      → SameAnswers os os'
      → SameAnswers (o ∷ os) (o' ∷ os')

-- What two runs have in common where the first lost nothing.
pub record Agree (s : State) (es : List Event) (s' : State) (es' : List Event) : Type 0 where
  -- "neither has the second"
  pub lossless : NothingLost s' es'
  pub alike : Alike (after s es) (after s' es')
  -- and beyond the order: the whole core
  pub core : (after s es).board.core ≡ (after s' es').board.core
  pub answers : SameAnswers (outcomes s es) (outcomes s' es')
  -- "where neither quarter-full interrupt is ever selected, the interrupt request is equal too"
  pub request : NoQuarters s es → (after s es).board.request ≡ (after s' es').board.request

-- ---- The demand

-- "Up to any point", the end of the first n events, and with nothing asked of what comes after it.
abbrev pub Demand3 : Type 0
Demand3 =
    (m m' : List ℕ) (es es' : List Event)
    → AllNeverLower es es'
    → (n : ℕ)
    → PowerUpsAccepted (start m) (take n es)
    → PowerUpsAccepted (start m') (take n es')
    → NothingLost (start m) (take n es)
    → Agree (start m) (take n es) (start m') (take n es')

-- The same from any two records, sound or not, from an accepted power-up on.
abbrev pub Demand3-from-any : Type 0
Demand3-from-any =
    (s s' : State) (x x' : Settings) (es es' : List Event)
    → NeverLower (power_up x) (power_up x')
    → (step s (power_up x)).answer.refusal ≡ 0
    → (step s' (power_up x')).answer.refusal ≡ 0
    → AllNeverLower es es'
    → (n : ℕ)
    → PowerUpsAccepted (step s (power_up x)).state (take n es)
    → PowerUpsAccepted (step s' (power_up x')).state (take n es')
    → NothingLost (step s (power_up x)).state (take n es)
    → Agree (step s (power_up x)).state (take n es) (step s' (power_up x')).state (take n es')

-- In the order's own words: every power-up of the whole session accepted, no quarter selected in the whole session.
abbrev pub Demand3-as-ordered : Type 0
Demand3-as-ordered =
    (m m' : List ℕ) (es es' : List Event)
    → AllNeverLower es es'
    → PowerUpsAccepted (start m) es
    → PowerUpsAccepted (start m') es'
    → (n : ℕ)
    → NothingLost (start m) (take n es)
    → NothingLost (start m') (take n es')
    × Alike (after (start m) (take n es)) (after (start m') (take n es'))
    × (NoQuarters (start m) es → (after (start m) (take n es)).board.request ≡ (after (start m') (take n es')).board.request)

-- ---- Beyond the order: power-ups that are refused

-- a power-up gets the same number in both runs: both accept it, or both refuse it alike
abbrev pub PowerUpAlike : Event → Outcome → Outcome → Type 0
PowerUpAlike (power_up x) o o' = o.answer.refusal ≡ o'.answer.refusal
PowerUpAlike (write a v) o o' = Unit {0}
PowerUpAlike (read a) o o' = Unit {0}
PowerUpAlike (signal x) o o' = Unit {0}

unfoldable pub PowerUpsAlike : State → List Event → State → List Event → Type 0
PowerUpsAlike s [] s' es' = Unit {0}
PowerUpsAlike s (e ∷ es) s' [] = Unit {0}
PowerUpsAlike s (e ∷ es) s' (e' ∷ es') =
    PowerUpAlike e (step s e) (step s' e') × PowerUpsAlike (step s e).state es (step s' e').state es'

-- The demand with that for its premise. "every power-up accepted in both" is the case in which the number is 0; a refused one changes
-- neither run.
abbrev pub Demand3-alike : Type 0
Demand3-alike =
    (m m' : List ℕ) (es es' : List Event)
    → AllNeverLower es es'
    → (n : ℕ)
    → PowerUpsAlike (start m) (take n es) (start m') (take n es')
    → NothingLost (start m) (take n es)
    → Agree (start m) (take n es) (start m') (take n es')
