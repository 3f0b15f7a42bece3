-- The record has the range in which levels count, from event to event: so volts can be made by the record's own range.
use Prim.Native.Nat.{ℕ}
use mathlib.Core.Path.{◌≡◌, refl, ◌∙◌}
use mathlib.Core.Bool.{false}
use mathlib.Core.List.{List}
use Rattle.rules.specs.declared.Event.{Event}
use Rattle.rules.specs.declared.Board.{Board}
use Rattle.rules.specs.Record.{State, start}
use Rattle.rules.specs.Step.{step}
use Rattle.rules.proofs.Choice.{cases}
use Rattle.volt_rules.specs.Counting.{Counted, nothing_counted, starts_afresh, count_event}
use Rattle.volt_rules.proofs.Counting.{also_counted}
use Rattle.volt_rules.proofs.Playing.{Sixteen, start_holds, event_holds}
use Rattle.volt_rules.proofs.Tables.{event_sixteen}
use Rattle.volts.specs.Watching.{SameRange}

abbrev pub Suits : Counted → Board → Type 0
Suits w b = SameRange w b × Sixteen b.core.outputs.levels

pub start_suits : (m : List ℕ) → Suits nothing_counted (start m).board
start_suits m = (λ _. start_holds.0, start_holds.1)

-- an event that starts nothing afresh keeps the range
pub range_kept : (s : State) (e : Event) (w : Counted) → Suits w s.board → starts_afresh e (step s e) ≡ false → SameRange w (step s e).state.board
range_kept s e w h f z = (event_holds _ s e f (refl, h.1)).0 ∙ h.0 z

pub suits_on : (s : State) (e : Event) (w : Counted) → Suits w s.board → Suits (count_event e (step s e) w) (step s e).state.board
unfolding count_event
suits_on s e w h = (
  cases (λ (v : Counted). SameRange v (step s e).state.board) (starts_afresh e (step s e)) (λ _ _. refl)
      (λ f z. range_kept s e w h f (also_counted _ w.levels z)),
  (event_sixteen s e (_, (refl, h.1))).1.1,
)
