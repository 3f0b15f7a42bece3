-- Every event keeps soundness, and an accepted power-up gives it; so the states of a run are not powered, or sound.
use Prim.Native.Nat.{ℕ, zero, suc, ◌+◌, ◌-◌, ◌≤◌, ◌<◌}
use mathlib.Core.Path.{◌≡◌, refl, sym, ◌∙◌}
use mathlib.Core.Bool.{Bool, true, false, not, ◌&&◌, cond, false≢true}
use mathlib.Core.List.{List, [], ◌∷◌, ◌++◌}
use native.Mathlib.Nat.{mod-lt}
use native.Mathlib.Omega.{arith}
use lib.Pow.{pow_pos}
use Rattle.laws.specs.Types.{Settings, Options, Control, Mode, Calibration, Clock, Burst, Load, Lost, Outputs, Core, Event, power_up, write, read, signal, Signal, tick, outside, trigger, passed, failed, settled}
use Rattle.rules.specs.Bits.{bit, active, active_from, head_or}
use Rattle.rules.specs.Record.{State, channels, stored, unpowered}
use Rattle.rules.specs.Parts.{no_burst, no_load, remade, with_clock, with_lost}
use Rattle.rules.specs.Clocks.{Play, closed, next_channel, moving, cursor_after, burst_after, load_after, moves, clock, tick_accepted, clock_accepted, trigger_accepted, on_tick, on_outside, on_trigger}
use Rattle.rules.specs.Writes.{initial, burst_of, cursor_of, calibration_of, write_control, write_mask, write_rate, write_adjust, load_kept, load_asked, buffer_of, tried, write_buffer, write_data, on_write}
use Rattle.rules.specs.Play.{options_of, calibration_ends, settles, on_signal, play}
use Rattle.rules.specs.Place.{place}
use Rattle.rules.specs.Size.{size_after}
use Rattle.rules.specs.Refusals.{refusal}
use Rattle.rules.specs.Step.{refused, board_before, done}
use Rattle.rules.specs.Laws.Soundness.{Stands}
use Rattle.laws.specs.Lasting.{Stands-kept, Stands-given, InRun, InRun-start, InRun-kept}
use Rattle.rules.specs.Laws.Refusals.{Ordinary}
use Rattle.rules.proofs.Choice.{cases, either, and_both}
use Rattle.rules.proofs.Sizes.{depth_pos}
use Rattle.laws.proofs.Offsets.{write_cases}
use Rattle.rules.proofs.Steps.{step_done, step_cases, refusal_answered}
use Rattle.laws.proofs.Kept.{event_kept, stands_fit, fit_stands}
use Rattle.rules.proofs.Soundness.{SoundOptions, SoundOutputs, SoundLoad, SoundBurst, SoundCore, core_from, sound_core_lem}
use Rattle.rules.proofs.Refusals.{power_up_accepted, refusal_stands}
use Rattle.rules.proofs.Initial.{power_up_options}

-- ---- Clocks keep it

AllBelow : ℕ → List ℕ → Type 0
AllBelow n [] = Unit {0}
AllBelow n (x ∷ xs) = (x < n) × AllBelow n xs

active_below : (top n k mask : ℕ) → n + k ≤ top → AllBelow top (active n k mask)
unfolding active AllBelow
active_below top zero k mask h = tt
active_below top (suc n) k mask h =
    let r : AllBelow top (active n (suc k) mask) = active_below top n (suc k) mask (omega arith) in
    either (AllBelow top) (bit k mask) (omega arith, r) r

append_below : (n : ℕ) (xs ys : List ℕ) → AllBelow n xs → AllBelow n ys → AllBelow n (xs ++ ys)
unfolding AllBelow
append_below n [] ys h k = k
append_below n (x ∷ xs) ys h k = (h.0, append_below n xs ys h.1 k)

head_below : (d n : ℕ) (xs : List ℕ) → d < n → AllBelow n xs → head_or d xs < n
unfolding head_or AllBelow
head_below d n [] h k = h
head_below d n (x ∷ xs) h k = k.0

pub next_below : (c : Core) → c.outputs.cursor ≤ 20 → next_channel c < 20
unfolding next_channel
next_below c h =
    let k = c.outputs.cursor in
    let m = c.outputs.mask in
    head_below 0 20 _ (omega arith)
    (append_below 20 (active_from k m) (active_from 0 m) (active_below 20 (20 - k) k m (omega arith)) (active_below 20 20 0 m (omega arith)))

cursor_sound : (c : Core) → SoundOutputs c.options.kit c.control.simultaneous c.outputs → cursor_after c ≤ 20
unfolding cursor_after
cursor_sound c h =
    either (λ (n : ℕ). n ≤ 20) c.control.simultaneous h.cursor (omega (arith, next_below c h.cursor))

pub cursor_zeroed : (c : Core) → SoundOutputs c.options.kit c.control.simultaneous c.outputs
    → c.control.simultaneous ≡ true → cursor_after c ≡ 0
unfolding cursor_after
cursor_zeroed c h e = rw e (h.zeroed e)

load_sound : (ended circular : Bool) (x : Load) → SoundLoad circular x → SoundLoad circular (load_after ended x)
unfolding load_after
load_sound false circular x h = h
load_sound true circular x h =
    record {
      pending = λ e. absurd (false≢true e);
      opened = λ e. h.pending (and_both (not x.opened) x.pending e).1;
      apart = λ e. absurd (false≢true e);
    }

none_sound : (bursts : Bool) → SoundBurst bursts no_burst
none_sound bursts = record { running = λ e. absurd (false≢true e); software = λ e. absurd (false≢true e) }

burst_sound : (ended bursts : Bool) (x : Burst) → SoundBurst bursts x → SoundBurst bursts (burst_after ended x)
unfolding burst_after
burst_sound ended bursts x h = either (SoundBurst bursts) ended (none_sound bursts) h

-- A sound core whose parts are put anew is sound by the parts that soundness speaks of.
resound : {c : Core} {control : Control} {mode : Mode} {calibration : Calibration} {clock : Clock} {burst : Burst} {load : Load} {lost : Lost} {outputs : Outputs}
    → SoundCore c
    → SoundOutputs c.options.kit control.simultaneous outputs
    → control.selection ≤ 7
    → clock.nclk ≤ 511
    → SoundLoad mode.circular load
    → SoundBurst control.bursts burst
    → (calibration.running ≡ true → calibration.calibrated ≡ false)
    → SoundCore (remade c control mode calibration clock burst load lost outputs)
resound h outputs selection nclk load burst calibrating =
    record {
      powered = h.powered;
      options = h.options;
      outputs = outputs;
      selection = selection;
      nclk = nclk;
      load = load;
      burst = burst;
      calibrating = calibrating;
    }

-- a play leaves a sound core
abbrev SoundPlay : Play → Type 0
SoundPlay p = SoundCore p.core

moves_sound : (c : Core) (buf : List ℕ) (k : ℕ) → SoundCore c → SoundPlay (moves c buf k)
unfolding moves
moves_sound c buf zero h = h
moves_sound c buf (suc k) h =
    resound h
    (record { mask = h.outputs.mask; cursor = cursor_sound c h.outputs; zeroed = cursor_zeroed c h.outputs })
    h.selection
    h.nclk
    (load_sound _ _ c.load h.load)
    (burst_sound _ _ c.burst h.burst)
    h.calibrating

tick_sound : (c : Core) (buf : List ℕ) → SoundCore c → SoundPlay (on_tick c buf)
unfolding on_tick clock
tick_sound c buf h = either SoundPlay (tick_accepted c) (moves_sound c buf (moving c buf) h) h

outside_sound : (c : Core) (buf : List ℕ) → SoundCore c → SoundPlay (on_outside c buf)
unfolding on_outside clock
outside_sound c buf h = either SoundPlay (clock_accepted c) (moves_sound c buf (moving c buf) h) h

trigger_enabled : (c : Core) → trigger_accepted c ≡ true → c.control.bursts ≡ true
trigger_enabled c e =
    let a = and_both (c.control.bursts && not c.control.barred && not c.burst.running) (not c.calibration.running) e in
    let b = and_both (c.control.bursts && not c.control.barred) (not c.burst.running) a.0 in
    (and_both c.control.bursts (not c.control.barred) b.0).0

trigger_sound : (c : Core) → SoundCore c → SoundPlay (on_trigger c)
unfolding on_trigger
trigger_sound c h =
    resound h
    h.outputs
    h.selection
    h.nclk
    h.load
    (cases (SoundBurst c.control.bursts) (trigger_accepted c)
    (λ e. record { running = λ _. trigger_enabled c e; software = λ e'. absurd (false≢true e') }) (λ e. h.burst))
    h.calibrating

-- ---- Writes keep it

control_sound : (c : Core) (v : ℕ) → SoundCore c → SoundPlay (write_control c v)
unfolding write_control burst_of cursor_of calibration_of
control_sound c v h =
    resound h
    (record {
      mask = h.outputs.mask;
      cursor = either (λ (n : ℕ). n ≤ 20) (cond c.control.simultaneous (bit 7 v) (not (bit 7 v))) h.outputs.cursor (omega arith);
      zeroed = zeroed c.control.simultaneous (bit 7 v) h.outputs.zeroed;
    })
    (omega arith)
    h.nclk
    h.load
    (bursts (bit 0 v) (bit 2 v && not c.burst.running) h.burst.software)
    (cases Apart (bit 13 v) (λ e _. refl) (λ e. h.calibrating))
  where
    Apart : Calibration → Type 0
    Apart x = x.running ≡ true → x.calibrated ≡ false

    zeroed : (was is : Bool) → (was ≡ true → c.outputs.cursor ≡ 0) → is ≡ true → cond (cond was is (not is)) c.outputs.cursor 0 ≡ 0
    zeroed true true f e = f refl
    zeroed false true f e = refl
    zeroed was false f e = absurd (false≢true e)

    bursts : (on asked : Bool) → (c.burst.software ≡ true → c.burst.running ≡ true)
        → SoundBurst on (cond on (cond asked (record { running = true; software = true }) c.burst) no_burst)
    bursts true true f = record { running = λ _. refl; software = λ _. refl }
    bursts true false f = record { running = λ _. refl; software = f }
    bursts false asked f = none_sound false

mask_sound : (c : Core) (v : ℕ) → SoundCore c → SoundPlay (write_mask c v)
unfolding write_mask
mask_sound c v h =
    resound h
    (record { mask = mod-lt v (pow_pos (channels c.options.kit)); cursor = omega arith; zeroed = λ e. refl })
    h.selection
    h.nclk
    h.load
    h.burst
    h.calibrating

clock_sound : (c : Core) (x : Clock) → SoundCore c → x.nclk ≤ 511 → SoundCore (with_clock x c)
clock_sound c x h k = resound h h.outputs h.selection k h.load h.burst h.calibrating

lost_sound : (c : Core) (x : Lost) → SoundCore c → SoundCore (with_lost x c)
lost_sound c x h =
    resound h h.outputs h.selection h.nclk h.load h.burst h.calibrating

data_sound : (c : Core) (full : Bool) (v : ℕ) → SoundCore c → SoundPlay (write_data c full v)
unfolding write_data
data_sound c full v h = either SoundPlay (closed c) (lost_sound c _ h) (either SoundPlay full (lost_sound c _ h) h)

-- D8, D9 and D11, and the loading state
asked_sound : (d8 d9 d11 : Bool) (x : Load) → (x.pending ≡ true → x.opened ≡ false)
    → (let y = cond (d8 && not d11) x no_load in SoundLoad d8 (cond (d8 && not y.opened) (record { pending = d9; opened = y.opened }) y))
asked_sound false d9 d11 x f = record { pending = λ e. absurd (false≢true e); opened = λ e. absurd (false≢true e); apart = λ e. absurd (false≢true e) }
asked_sound true d9 true x f = record { pending = λ e. refl; opened = λ e. refl; apart = λ e. refl }
asked_sound true d9 false x f = go x.opened refl
  where
    go : (o : Bool) → x.opened ≡ o → SoundLoad true (cond (not o) (record { pending = d9; opened = o }) x)
    go true e = record { pending = λ _. refl; opened = λ _. refl; apart = f }
    go false e = record { pending = λ _. refl; opened = λ _. refl; apart = λ _. refl }

buffer_core_sound : (c : Core) (v : ℕ) → SoundCore c → SoundCore (buffer_of v c)
unfolding buffer_of load_asked load_kept
buffer_core_sound c v h =
    resound h
    (record {
      mask = h.outputs.mask;
      cursor = either (λ (n : ℕ). n ≤ 20) (bit 11 v) (omega arith) h.outputs.cursor;
      zeroed = λ e. either (λ (n : ℕ). n ≡ 0) (bit 11 v) refl (h.outputs.zeroed e);
    })
    h.selection
    h.nclk
    (asked_sound (bit 8 v) (bit 9 v) (bit 11 v) c.load h.load.apart)
    (either (SoundBurst c.control.bursts) (bit 11 v) (none_sound c.control.bursts) h.burst)
    h.calibrating

buffer_sound : (c : Core) (buf : List ℕ) (v : ℕ) → SoundCore c → SoundPlay (write_buffer c buf v)
unfolding write_buffer tried
buffer_sound c buf v h =
    let k = buffer_core_sound c v h in
    either SoundPlay (bit 11 v) k (either SoundPlay (bit 7 v) (outside_sound (buffer_of v c) buf k) k)

initial_sound : (o : Options) → SoundOptions o → SoundCore (initial o)
unfolding initial
initial_sound o h =
    record {
      powered = refl;
      options = h;
      outputs = record { mask = omega (arith, pow_pos (channels o.kit)); cursor = omega arith; zeroed = λ e. refl };
      selection = omega arith;
      nclk = omega arith;
      load = record { pending = λ e. absurd (false≢true e); opened = λ e. absurd (false≢true e); apart = λ e. refl };
      burst = none_sound false;
      calibrating = λ e. refl;
    }

write_sound : (c : Core) (buf : List ℕ) (full : Bool) (o v : ℕ) → SoundCore c → SoundPlay (on_write c buf full o v)
unfolding write_rate write_adjust
write_sound c buf full o v h =
    write_cases SoundPlay c buf full o v
    (λ _. initial_sound c.options h.options)
    (λ _. control_sound c v h)
    (λ _. mask_sound c v h)
    (λ _. clock_sound c _ h h.nclk)
    (λ _. buffer_sound c buf v h)
    (λ _. data_sound c full v h)
    (clock_sound c _ h (omega arith))

-- ---- Every event keeps it

calibration_sound : (c : Core) (failure : Bool) → SoundCore c → SoundPlay (calibration_ends c failure)
unfolding calibration_ends
calibration_sound c failure h =
    resound h h.outputs h.selection h.nclk h.load h.burst (λ e. absurd (false≢true e))

signal_sound : (c : Core) (buf : List ℕ) (x : Signal) → SoundCore c → SoundPlay (on_signal c buf x)
unfolding on_signal settles
signal_sound c buf tick h = tick_sound c buf h
signal_sound c buf outside h = outside_sound c buf h
signal_sound c buf trigger h = trigger_sound c h
signal_sound c buf passed h = calibration_sound c false h
signal_sound c buf failed h = calibration_sound c true h
signal_sound c buf settled h = clock_sound c _ h h.nclk

pub play_sound : (c : Core) (buf : List ℕ) (full : Bool) (e : Event) → Ordinary e → SoundCore c → SoundPlay (play c buf full e)
unfolding play
play_sound c buf full (power_up x) o h = absurd o
play_sound c buf full (write a v) o h = write_sound c buf full a v h
play_sound c buf full (read a) o h = h
play_sound c buf full (signal x) o h = signal_sound c buf x h

pub done_stands : (s : State) (e : Event) → Ordinary e → Stands s → Stands (done s e).state
unfolding done board_before
done_stands s e o h =
    fit_stands (done s e).state (core_from _ (play_sound s.board.core (stored s) _ e o (sound_core_lem s.board h.sound))) (event_kept s e o (stands_fit s h)).fit

-- ---- A power-up gives it

pub up_stands : (s : State) (x : Settings) → refusal s (power_up x) ≡ 0 → Stands (done s (power_up x)).state
unfolding done board_before play place size_after
up_stands s x h =
    let a = power_up_accepted s x h in
    fit_stands (done s (power_up x)).state (core_from _ (initial_sound (options_of x) (power_up_options s x h)))
    (record {
      good = record { first_lt = depth_pos x.fitted; count_le = omega arith; enough = a.1 };
      fitted = a.0.fitted;
      code = omega arith;
    })

-- ---- The laws

-- an event that is done leaves one: a power-up gives it, and any other was done on one
done_leaves : (s : State) (e : Event) → refusal s e ≡ 0 → Stands (done s e).state
done_leaves s (power_up x) z = up_stands s x z
done_leaves s (write a v) z = done_stands s (write a v) tt (refusal_stands s (write a v) tt z)
done_leaves s (read a) z = done_stands s (read a) tt (refusal_stands s (read a) tt z)
done_leaves s (signal x) z = done_stands s (signal x) tt (refusal_stands s (signal x) tt z)

pub stands_kept : Stands-kept
unfolding refused
stands_kept s e h = step_cases (λ o. Stands o.state) s e (done_leaves s e) (λ _. h)

pub stands_given : Stands-given
stands_given s x h =
    let z : refusal s (power_up x) ≡ 0 = sym (refusal_answered s (power_up x)) ∙ h in
    rw (step_done s (power_up x) z) (up_stands s x z)

pub in_run_start : InRun-start
unfolding unpowered
in_run_start m h = absurd (false≢true h)

pub in_run_kept : InRun-kept
unfolding refused
in_run_kept s e k = step_cases (λ o. InRun o.state) s e (λ z _. done_leaves s e z) (λ _. k)
