-- The states that rules look at, as facts: closed, and the numbers of the stored list.
use mathlib.Core.Path.{◌≡◌, sym, ◌∙◌}
use mathlib.Core.Logic.{◌↔◌}
use mathlib.Core.Bool.{Bool, true, false, not, ◌&&◌, true≢false}
use Rattle.rules.specs.Types.{Core}
use Rattle.rules.specs.Clocks.{closed, clock_ready, burst_ready}
use Rattle.rules.specs.Laws.Closed.{Closed}
use Rattle.rules.proofs.Choice.{and_both, both_and, not_both, not_true}

not_from : (t : Bool) → t ≡ false → not t ≡ true
not_from t h = rw h

pub closed_exactly : (c : Core) → (closed c ≡ true) ↔ Closed c
closed_exactly c = (
  λ h.
      let t = and_both c.mode.circular (not c.load.opened) h in
      record { circular = t.0; unopened = not_true _ (not_both _ t.1) },
  λ h. both_and _ _ h.circular (not_from _ h.unopened),
)

pub closed_not : (c : Core) → (closed c ≡ false) ↔ (¬ Closed c)
closed_not c = (λ h k. true≢false (sym ((closed_exactly c).1 k) ∙ h), λ h. not_true _ (λ k. h ((closed_exactly c).0 k)))

pub burst_ready_exactly : (c : Core) → (burst_ready c ≡ true) ↔ ((c.control.bursts ≡ true) × (c.burst.running ≡ false))
burst_ready_exactly c = (
  λ h. let t = and_both c.control.bursts (not c.burst.running) h in (t.0, not_true _ (not_both _ t.1)),
  λ h. both_and _ _ h.0 (not_from _ h.1),
)

pub clock_ready_exactly : (c : Core)
    → (clock_ready c ≡ true) ↔ ((c.mode.external ≡ true) × (c.clock.settling ≡ false) × (c.calibration.running ≡ false))
clock_ready_exactly c = (
  λ h.
      let t = and_both (c.mode.external && not c.clock.settling) (not c.calibration.running) h in
      let u = and_both c.mode.external (not c.clock.settling) t.0 in
      (u.0, not_true _ (not_both _ u.1), not_true _ (not_both _ t.1)),
  λ h. both_and _ _ (both_and _ _ h.0 (not_from _ h.1)) (not_from _ h.2),
)
