-- Events that change nothing, and what an accepted trigger does.
use Prim.Native.Nat.{ℕ}
use mathlib.Core.Path.{◌≡◌, refl, ◌∙◌}
use mathlib.Core.Logic.{inl, inr}
use mathlib.Core.Bool.{true, not, ◌&&◌, ◌||◌, and-false}
use Rattle.rules.specs.Types.{Board, power_up, write, read, signal, Signal, tick, outside, trigger, passed, failed, settled}
use Rattle.rules.specs.Bits.{bits_of}
use Rattle.rules.specs.Record.{State}
use Rattle.rules.specs.Registers.{control_bits, registers, read_from}
use Rattle.rules.specs.Clocks.{only, clock_ready, tick_accepted, clock_accepted, trigger_accepted, on_tick, on_outside, on_trigger}
use Rattle.rules.specs.Play.{on_signal, play}
use Rattle.rules.specs.Place.{place}
use Rattle.rules.specs.Size.{initialises, size_after}
use Rattle.rules.specs.Interrupt.{request_held}
use Rattle.rules.specs.Step.{refused, reading, played, board_before, done}
use Rattle.rules.specs.Laws.Refused.{Nothing, TickAccepted, ClockAccepted, TriggerAccepted, Accepted, Refused-nothing, Unaccepted-nothing, Register-none, Read-nothing, TriggerStarted, Trigger-starts}
use Rattle.rules.specs.Laws.Stays.{all, ◌also◌}
use Rattle.rules.proofs.Choice.{cond_false, and_both, or_cases, not_true, not_both}
use Rattle.rules.proofs.States.{clock_ready_exactly}
use Rattle.rules.proofs.Nothing.{request_kept, only_nothing}
use Rattle.rules.proofs.Steps.{step_done, step_cases, refusal_answered}
use Rattle.rules.proofs.Readings.{bit_number}
use Rattle.rules.proofs.Played.{played_after}

-- ---- Refused

refused_nothing_at : (n : ℕ) (s : State) → Nothing s (refused n s)
unfolding refused
refused_nothing_at n s = record { register = refl; moved = refl; fate = refl; state = refl }

pub refused_nothing : Refused-nothing
refused_nothing s e h = step_cases (Nothing s) s e (λ z. absurd (h (refusal_answered s e ∙ z))) (λ _. refused_nothing_at _ s)

-- ---- Not accepted

tick_to : (b : Board) → tick_accepted b.core ≡ true → TickAccepted b
tick_to b h =
    let c = b.core in
    let t = and_both (c.mode.enabled && (not c.mode.external || c.clock.alt)) (not c.calibration.running) h in
    let u = and_both c.mode.enabled (not c.mode.external || c.clock.alt) t.0 in
    record {
      enabled = u.0;
      source = or_cases (not c.mode.external) c.clock.alt u.1 (λ x. inl (not_true _ (not_both _ x))) inr;
      uncalibrating = not_true _ (not_both _ t.1);
    }

clock_to : (b : Board) → clock_accepted b.core ≡ true → ClockAccepted b
clock_to b h =
    let c = b.core in
    let t = and_both (c.mode.enabled && c.mode.external && not c.clock.alt) (clock_ready c) h in
    let u = and_both (c.mode.enabled && c.mode.external) (not c.clock.alt) t.0 in
    let w = and_both c.mode.enabled c.mode.external u.0 in
    let r = (clock_ready_exactly c).0 t.1 in
    record { enabled = w.0; external = w.1; direct = not_true _ (not_both _ u.1); settled = r.1; uncalibrating = r.2 }

trigger_to : (b : Board) → trigger_accepted b.core ≡ true → TriggerAccepted b
trigger_to b h =
    let c = b.core in
    let t = and_both (c.control.bursts && not c.control.barred && not c.burst.running) (not c.calibration.running) h in
    let u = and_both (c.control.bursts && not c.control.barred) (not c.burst.running) t.0 in
    let w = and_both c.control.bursts (not c.control.barred) u.0 in
    record {
      bursts = w.0;
      unbarred = not_true _ (not_both _ w.1);
      resting = not_true _ (not_both _ u.1);
      uncalibrating = not_true _ (not_both _ t.1);
    }

trigger_from : (b : Board) → TriggerAccepted b → trigger_accepted b.core ≡ true
trigger_from b h = rw (h.bursts, h.unbarred, h.resting, h.uncalibrating)

unaccepted_plays : (s : State) (x : Signal) → ¬ Accepted x s.board → played s (signal x) ≡ only s.board.core
unfolding play on_signal on_tick on_outside on_trigger
unaccepted_plays s tick h = cond_false _ _ _ (not_true _ (λ t. h (tick_to s.board t)))
unaccepted_plays s outside h = cond_false _ _ _ (not_true _ (λ t. h (clock_to s.board t)))
unaccepted_plays s trigger h = rw (not_true _ (λ t. h (trigger_to s.board t)))
unaccepted_plays s passed h = absurd (h tt)
unaccepted_plays s failed h = absurd (h tt)
unaccepted_plays s settled h = absurd (h tt)

pub unaccepted_nothing : Unaccepted-nothing
unaccepted_nothing s x h =
    step_cases (Nothing s) s (signal x) (λ _. only_nothing s x (unaccepted_plays s x h)) (λ _. refused_nothing_at _ s)

-- ---- Reads

pub register_none : Register-none
unfolding done refused reading
register_none s (power_up x) h = step_cases (λ o. o.answer.register ≡ 0) s (power_up x) (λ _. refl) (λ _. refl)
register_none s (write a v) h = step_cases (λ o. o.answer.register ≡ 0) s (write a v) (λ _. refl) (λ _. refl)
register_none s (read a) h = absurd (h tt)
register_none s (signal x) h = step_cases (λ o. o.answer.register ≡ 0) s (signal x) (λ _. refl) (λ _. refl)

pub read_nothing : Read-nothing
unfolding done board_before reading play place size_after request_held initialises
read_nothing s o h = rw (step_done s (read o) h) (refl, rw (request_kept (read o) s.board refl))

-- ---- An accepted trigger

pub trigger_starts : Trigger-starts
unfolding play on_signal on_trigger place size_after registers read_from control_bits bits_of
trigger_starts s h k =
    played_after (TriggerStarted s) s (signal trigger) (on_trigger s.board.core) h refl (λ q.
    rw (trigger_from s.board k)
    record {
      running = refl;
      d1 = bit_number _ 1 ∙ and-false s.board.core.control.bursts;
      d2 = bit_number _ 2;
      stays = refl also refl also refl also refl also refl also refl also refl also refl also refl also refl also refl also all;
      room = record { size = refl; ring = refl; memory = refl };
    })
