-- What the plan of an event comes to: of a write by its offset, of a signal by its kind.
use Prim.Native.Nat.{ℕ}
use mathlib.Core.Path.{◌≡◌, refl}
use mathlib.Core.Bool.{Bool, ◌&&◌}
use mathlib.Core.List.{List}
use borrow.Author.Tests.{eqb-true}
use lib.Dec.{eqb}
use Rattle.rules.specs.Bits.{bit}
use Rattle.rules.specs.Clocks.{on_trigger}
use Rattle.rules.specs.Writes.{on_write}
use Rattle.rules.specs.Play.{calibration_ends, settles, on_signal, play}
use Rattle.rules.specs.declared.Core.{Core}
use Rattle.rules.specs.declared.Signal.{Signal}
use Rattle.rules.specs.declared.Signal.TheVariants.{Tick as tick, Outside as outside, Trigger as trigger}
use Rattle.rules.specs.declared.Signal.TheVariants.{Passed as passed, Failed as failed, Settled as settled}
use Rattle.rules.specs.declared.Event.TheVariants.{PowerUp as power_up, Write as write, Read as read, Signal as signal}
use Rattle.rules.proofs.Choice.{cases, either, and_both}
use Rattle.plans.specs.declared.Plan.{Plan}
use Rattle.plans.specs.Parts.{carried, MovesOrStores, Within}
use Rattle.plans.specs.Plan.{buffer_plan, write_plan, signal_plan, planned}
use Rattle.plans.specs.Laws.{Plan-plays, Plan-ordinary, Plan-within}
use Rattle.plans.proofs.Acts.{plays_tick, plays_outside, plays_buffer, plays_core, buffer_within, same_within}

-- ---- Writes

module _ (c : Core) (buf : List ℕ) (full : Bool) (o v : ℕ) where
  abbrev Comes : Plan → Type 0
  Comes p = on_write c buf full o v ≡ carried p.act p.core buf full

  plays_write : Comes (write_plan c o v)
  unfolding write_plan
  plays_write =
      cases Comes (eqb o 0x0C) (λ t. unfold on_write buffer_plan in rw (eqb-true o 0x0C t) (plays_buffer c buf full v))
      (λ h. cases Comes (eqb o 0x18) (λ t. unfold on_write carried in rw (eqb-true o 0x18 t))
      (λ k. cases Comes (eqb o 0x00 && bit 15 v) (λ t. let b = and_both (eqb o 0x00) (bit 15 v) t in unfold on_write carried in rw (b.0, b.1))
      (λ n. unfold carried in plays_core c buf full o v h k n)))

within_write : (c : Core) (o v : ℕ) → MovesOrStores (write_plan c o v).act → Within c (write_plan c o v).core
unfolding write_plan buffer_plan MovesOrStores
within_write c o v =
    either P (eqb o 0x0C) (λ _. buffer_within v c)
    (either P (eqb o 0x18) (λ _. same_within c) (either P (eqb o 0x00 && bit 15 v) (λ m. absurd m) (λ m. absurd m)))
  where
    P : Plan → Type 0
    P p = MovesOrStores p.act → Within c p.core

-- ---- Signals

plays_signal : (c : Core) (buf : List ℕ) (full : Bool) (x : Signal)
    → on_signal c buf x ≡ carried (signal_plan c x).act (signal_plan c x).core buf full
unfolding on_signal signal_plan carried on_trigger calibration_ends settles
plays_signal c buf full tick = plays_tick c buf full
plays_signal c buf full outside = plays_outside c buf full
plays_signal c buf full trigger = refl
plays_signal c buf full passed = refl
plays_signal c buf full failed = refl
plays_signal c buf full settled = refl

within_signal : (c : Core) (x : Signal) → MovesOrStores (signal_plan c x).act → Within c (signal_plan c x).core
unfolding signal_plan MovesOrStores
within_signal c tick m = same_within c
within_signal c outside m = same_within c
within_signal c trigger m = absurd m
within_signal c passed m = absurd m
within_signal c failed m = absurd m
within_signal c settled m = absurd m

-- ---- Every event

pub plan_plays : Plan-plays
unfolding play planned carried
plan_plays c (power_up x) buf full = refl
plan_plays c (write o v) buf full = plays_write c buf full o v
plan_plays c (read o) buf full = refl
plan_plays c (signal x) buf full = plays_signal c buf full x

pub plan_ordinary : Plan-ordinary
unfolding planned MovesOrStores
plan_ordinary c (power_up x) m = absurd m
plan_ordinary c (write o v) m = tt
plan_ordinary c (read o) m = tt
plan_ordinary c (signal x) m = tt

pub plan_within : Plan-within
unfolding planned MovesOrStores
plan_within c (power_up x) m = absurd m
plan_within c (write o v) m = within_write c o v m
plan_within c (read o) m = absurd m
plan_within c (signal x) m = within_signal c x m
