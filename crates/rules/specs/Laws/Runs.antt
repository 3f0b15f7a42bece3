-- Whole runs: what a run starts from, that a run's beginning is the run of its beginning, and that what each event keeps a run keeps.
use Rattle.std.specs.Prelude.{ℕ, ◌≡◌, List, ◌++◌, take}
use Rattle.basics.specs.TwoRuns.{Engine}
use Rattle.rules.specs.Types.{Event}
use Rattle.rules.specs.Record.{State, unpowered, start}
use Rattle.rules.specs.Step.{Outcome, step}
use Rattle.rules.specs.Session.{outcomes, after}

-- 01: "A run starts unpowered": on the unpowered record, over the lent memory as it is.
pub record Started (m : List ℕ) (s : State) : Type 0 where
  pub board : s.board ≡ unpowered
  pub memory : s.memory ≡ m

abbrev pub Start-lent : Type 0
Start-lent = (m : List ℕ) → Started m (start m)

-- Two sessions one after the other are one session.
abbrev pub After-append : Type 0
After-append = (s : State) (es fs : List Event) → after s (es ++ fs) ≡ after (after s es) fs

abbrev pub Outcomes-append : Type 0
Outcomes-append = (s : State) (es fs : List Event) → outcomes s (es ++ fs) ≡ outcomes s es ++ outcomes (after s es) fs

-- The first n outcomes are those of the first n events.
abbrev pub Outcomes-take : Type 0
Outcomes-take = (s : State) (n : ℕ) (es : List Event) → outcomes s (take n es) ≡ take n (outcomes s es)

-- What each event keeps, a session keeps.
abbrev pub After-kept : Type 1
After-kept =
    (R : State → Type 0)
    → ((s : State) (e : Event) → R s → R (step s e).state)
    → (s : State) (es : List Event)
    → R s
    → R (after s es)

-- Two sessions side by side: the law is `Runs-together` of `basics`, and this the board in it.
abbrev pub stepping : Engine State Event Outcome
stepping = record { does = step; left = λ o. o.state }
