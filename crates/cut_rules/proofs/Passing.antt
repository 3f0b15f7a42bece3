-- One event after another on a board that stands: a write or a tick that is not refused, by what the rules make of it.
--   Done s e p           the event e is done in the state s, and p is its play
--   BoardWith c z vs s   the board s stands, with the core c, the size z and the values vs
use Prim.Native.Nat.{ℕ, zero, suc, ◌≤◌, zero-le}
use mathlib.Core.Path.{◌≡◌, refl, sym, ap, ◌∙◌}
use mathlib.Core.Logic.{◌≢◌}
use mathlib.Core.Bool.{false, true≢false}
use mathlib.Core.List.{List, [], ◌∷◌, ◌++◌}
use native.Mathlib.Nat.{le_of_eq, le_trans}
use Rattle.rules.specs.declared.Event.{Event}
use Rattle.rules.specs.declared.Event.TheVariants.{Write as write, Signal as signal}
use Rattle.rules.specs.declared.Signal.TheVariants.{Tick as tick}
use Rattle.rules.specs.declared.Size.{Size}
use Rattle.rules.specs.declared.Core.{Core}
use Rattle.rules.specs.Record.{State, stored}
use Rattle.rules.specs.Clocks.{Play, fate_number}
use Rattle.rules.specs.Size.{size_after}
use Rattle.rules.specs.Refusals.{refusal}
use Rattle.rules.specs.Step.{played, board_before, done, step}
use Rattle.rules.specs.Laws.Soundness.{Stands}
use Rattle.rules.specs.Laws.Refusals.{Ordinary, Offset, written, heard, a_tick}
use Rattle.rules.specs.Session.{outcomes, after}
use Rattle.rules.proofs.Steps.{step_done, refusal_answered}
use Rattle.rules.proofs.Refusals.{refusal_exactly}
use Rattle.laws.specs.Lists.{on_list}
use Rattle.laws.proofs.Kept.{event_kept, stands_fit}
use Rattle.laws.proofs.Lasting.{stands_kept}
use Rattle.laws.proofs.Loads.{fate_none}
use Rattle.cut_rules.specs.Plays.{Fine, none, next, many_ticks}

pub record Done (s : State) (e : Event) (p : Play) : Type 0 where
  pub refusal : (step s e).answer.refusal ≡ 0
  pub fate : (step s e).answer.fate ≡ fate_number p.fate
  pub stands : Stands (step s e).state
  pub core : (step s e).state.board.core ≡ p.core
  pub values : stored (step s e).state ≡ on_list p.op (stored s)
  pub size : (step s e).state.board.size ≡ size_after s.board.size e

pub event_done : (s : State) (e : Event) (p : Play) → Stands s → Ordinary e → refusal s e ≡ 0 → played s e ≡ p → Done s e p
unfolding done board_before
event_done s e p st o z h =
    let k = event_kept s e o (stands_fit s st) in
    record {
      refusal = rw (step_done s e z) refl;
      fate = rw (step_done s e z) (ap (λ (x : Play). fate_number x.fate) h);
      stands = stands_kept s e st;
      core = rw (step_done s e z) (ap (λ (x : Play). x.core) h);
      values = rw (step_done s e z) (k.lists ∙ ap (λ (x : Play). on_list x.op (stored s)) h);
      size = rw (step_done s e z) refl;
    }

-- an event that is no load loses nothing
pub no_loss_lem : {n : ℕ} → n ≡ 0 → n ≤ 1
no_loss_lem e = le_trans (le_of_eq e) zero-le

-- ---- Which are not refused

-- a write to a register that is none of the two that are read only, while no calibration runs
pub write_open : (s : State) (o v : ℕ) → Stands s → Offset o → o ≢ 0x10 → o ≢ 0x14 → s.board.core.calibration.running ≡ false
    → refusal s (write o v) ≡ 0
write_open s o v st a m m' c = (refusal_exactly s (write o v) 0).1 (written st a m m' (λ t. true≢false (sym t ∙ c)))

pub tick_open : (s : State) → Stands s → refusal s (signal tick) ≡ 0
tick_open s st = (refusal_exactly s (signal tick) 0).1 (heard a_tick st)

-- ---- What is known of a board

pub record BoardWith (c : Core) (z : Size) (vs : List ℕ) (s : State) : Type 0 where
  pub stands : Stands s
  pub core : s.board.core ≡ c
  pub size : s.board.size ≡ z
  pub values : stored s ≡ vs

module _ {c : Core} {z : Size} {vs : List ℕ} {s : State} (b : BoardWith c z vs s) where
  -- and so of the board after an event
  pub board_after : {e : Event} {p : Play} → Done s e p → BoardWith p.core (size_after z e) (on_list p.op vs) (step s e).state
  board_after {e} {p} d =
      record {
        stands = d.stands;
        core = d.core;
        size = d.size ∙ ap (λ (y : Size). size_after y e) b.size;
        values = d.values ∙ ap (on_list p.op) b.values;
      }

  pub write_accepted : (o v : ℕ) → Offset o → o ≢ 0x10 → o ≢ 0x14 → c.calibration.running ≡ false → refusal s (write o v) ≡ 0
  write_accepted o v a m m' still = write_open s o v b.stands a m m' (ap (λ (y : Core). y.calibration.running) b.core ∙ still)

  -- a write whose play p is told of the core, whatever the values and the size are
  pub write_done : (o v : ℕ) (p : Core → Play) → Offset o → o ≢ 0x10 → o ≢ 0x14 → c.calibration.running ≡ false
      → played s (write o v) ≡ p s.board.core
      → Done s (write o v) (p c)
  write_done o v p a m m' still h =
      event_done s (write o v) (p c) b.stands tt (write_accepted o v a m m' still) (h ∙ ap p b.core)

-- ---- One after another

pub fine_append : (s : State) (es fs : List Event) → Fine (outcomes s es) → Fine (outcomes (after s es) fs) → Fine (outcomes s (es ++ fs))
unfolding outcomes after
fine_append s [] fs none h = h
fine_append s (e ∷ es) fs (next r f g) h = next r f (fine_append (step s e).state es fs g h)

-- ticks are never refused, and lose nothing
pub ticks_fine : (n : ℕ) (s : State) → Stands s → Fine (outcomes s (many_ticks n))
unfolding outcomes
ticks_fine zero s st = none
ticks_fine (suc n) s st =
    next (refusal_answered s (signal tick) ∙ tick_open s st) (no_loss_lem (fate_none s (signal tick) (λ h. h)))
    (ticks_fine n (step s (signal tick)).state (stands_kept s (signal tick) st))
