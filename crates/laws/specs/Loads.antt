-- What becomes of a value written to 18h.
use Rattle.std.specs.Prelude.{ℕ, ◌%◌, ◌≤◌, ◌<◌, ◌≡◌, ◌≢◌, ◌↔◌, true, List, [], ◌∷◌, ◌++◌, length}
use Rattle.laws.specs.Types.{Event, power_up, write, read, signal}
use Rattle.rules.specs.Record.{State, stored, active_size, value_span}
use Rattle.rules.specs.Refusals.{refusal}
use Rattle.rules.specs.Step.{Outcome, step}
use Rattle.rules.specs.Laws.Refused.{SameRoom}
use Rattle.rules.specs.Laws.Closed.{Closed}
use Rattle.rules.specs.Laws.Stays.{Part, power, options, control, mode, calibration, clock, burst, load, mask, cursor, levels, AllStay}

-- all but the overflow flags
abbrev pub besides_lost : List Part
besides_lost = power ∷ options ∷ control ∷ mode ∷ calibration ∷ clock ∷ burst ∷ load ∷ mask ∷ cursor ∷ levels ∷ []

-- 01: "if closed, FRAME OVERFLOW (D17) is set and the value lost; else if full, BUFFER OVERFLOW (D16); else it is stored."
pub record Loaded (s : State) (v : ℕ) (o : Outcome) : Type 0 where
  -- fate 3 exactly when closed, 2 exactly when open and full, 1 exactly when open and not full
  pub shut : (o.answer.fate ≡ 3) ↔ Closed s.board.core
  pub full : (o.answer.fate ≡ 2) ↔ ((¬ Closed s.board.core) × (active_size s.board.size ≤ length (stored s)))
  pub room : (o.answer.fate ≡ 1) ↔ ((¬ Closed s.board.core) × (length (stored s) < active_size s.board.size))
  -- stored: "Only those 17 bits are used or written"
  pub appended : o.answer.fate ≡ 1 → (stored o.state ≡ stored s ++ (v % value_span ∷ [])) × (o.state.board.core ≡ s.board.core)
  -- lost: the list is as it was, the flag is set, and nothing else of the core is changed
  pub lost_to_full : o.answer.fate ≡ 2
      → (stored o.state ≡ stored s)
      × (o.state.board.core.lost.full ≡ true)
      × (o.state.board.core.lost.closed ≡ s.board.core.lost.closed)
      × AllStay s.board.core o.state.board.core besides_lost
  pub lost_to_closed : o.answer.fate ≡ 3
      → (stored o.state ≡ stored s)
      × (o.state.board.core.lost.full ≡ s.board.core.lost.full)
      × (o.state.board.core.lost.closed ≡ true)
      × AllStay s.board.core o.state.board.core besides_lost
  pub lost_room : o.answer.fate ≢ 1 → SameRoom s o.state
  pub size : o.state.board.size ≡ s.board.size

abbrev pub Load-loaded : Type 0
Load-loaded =
    (s : State) (v : ℕ)
    → refusal s (write 0x18 v) ≡ 0
    → Loaded s v (step s (write 0x18 v))

-- Only loads have a fate.
abbrev pub IsLoad : Event → Type 0
IsLoad (power_up x) = ⊥
IsLoad (write o v) = o ≡ 0x18
IsLoad (read o) = ⊥
IsLoad (signal x) = ⊥

abbrev pub Fate-none : Type 0
Fate-none = (s : State) (e : Event) → ¬ IsLoad e → (step s e).answer.fate ≡ 0
