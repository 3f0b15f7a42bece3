-- What an event does to the stored values is what their places allow: no more leave than there are, none is stored where there is no
-- room, and a stored value has 17 bits.
use Prim.Native.Nat.{ℕ, zero, suc, ◌≤◌, ◌<◌}
use mathlib.Core.Path.{◌≡◌}
use mathlib.Core.Bool.{Bool, false, ◌||◌}
use mathlib.Core.List.{List}
use native.Mathlib.Nat.{mod-lt}
use native.Mathlib.Omega.{arith}
use borrow.Author.Tests.{ltb-false}
use lib.Dec.{ltb}
use lib.ListN.{length}
use Rattle.laws.specs.Types.{Core, Event, power_up, write, read, signal, Signal, tick, outside, trigger, passed, failed, settled}
use Rattle.rules.specs.Bits.{bit}
use Rattle.rules.specs.Clocks.{Play, closed, targets, idle, moving, outgoing, moves, clock, tick_accepted, clock_accepted, on_tick, on_outside, on_trigger}
use Rattle.rules.specs.Writes.{write_control, write_mask, write_rate, write_adjust, buffer_of, tried, write_buffer, write_data, on_write}
use Rattle.rules.specs.Play.{calibration_ends, settles, on_signal, play}
use Rattle.rules.proofs.Choice.{cases, either, or_neither}
use Rattle.laws.specs.Lists.{Allowed}
use Rattle.laws.proofs.Offsets.{write_cases}

pub moving_le : (c : Core) (buf : List ℕ) → moving c buf ≤ length buf
unfolding moving
moving_le c buf =
    cases (λ (n : ℕ). n ≤ length buf) (idle c || ltb (length buf) (length (targets c))) (λ e. omega arith)
    (λ e. ltb-false (length buf) (length (targets c)) (or_neither (idle c) _ e).1)

-- ---- Each rule, over d places of which n are taken

module _ (d n : ℕ) where
  -- what is done to the values by a play is allowed
  abbrev Lawful : Play → Type 0
  Lawful p = Allowed d n p.op

  moves_lawful : (c : Core) (buf : List ℕ) (k : ℕ) → k ≤ n → Lawful (moves c buf k)
  unfolding moves outgoing
  moves_lawful c buf zero h = tt
  moves_lawful c buf (suc k) h = either (Allowed d n) (closed c) h h

  clock_lawful : (c : Core) (buf : List ℕ) → length buf ≤ n → Lawful (clock c buf)
  unfolding clock
  clock_lawful c buf h = moves_lawful c buf (moving c buf) (omega (arith, moving_le c buf))

  outside_lawful : (c : Core) (buf : List ℕ) → length buf ≤ n → Lawful (on_outside c buf)
  unfolding on_outside
  outside_lawful c buf h = either Lawful (clock_accepted c) (clock_lawful c buf h) tt

  tick_lawful : (c : Core) (buf : List ℕ) → length buf ≤ n → Lawful (on_tick c buf)
  unfolding on_tick
  tick_lawful c buf h = either Lawful (tick_accepted c) (clock_lawful c buf h) tt

  buffer_lawful : (c : Core) (buf : List ℕ) (v : ℕ) → zero < d → length buf ≤ n → Lawful (write_buffer c buf v)
  unfolding write_buffer tried
  buffer_lawful c buf v hd h = either Lawful (bit 11 v) hd (either Lawful (bit 7 v) (outside_lawful (buffer_of v c) buf h) tt)

  data_lawful : (c : Core) (full : Bool) (v : ℕ) → (full ≡ false → n < d) → Lawful (write_data c full v)
  unfolding write_data
  data_lawful c full v h = either Lawful (closed c) tt (cases Lawful full (λ e. tt) (λ e. (h e, mod-lt v (omega arith))))

  write_lawful : (c : Core) (buf : List ℕ) (full : Bool) (o v : ℕ) → zero < d → length buf ≤ n → (full ≡ false → n < d)
      → Lawful (on_write c buf full o v)
  unfolding write_control write_mask write_rate write_adjust
  write_lawful c buf full o v hd h hf =
      write_cases Lawful c buf full o v (λ _. hd) (λ _. tt) (λ _. tt) (λ _. tt) (λ _. buffer_lawful c buf v hd h) (λ _. data_lawful c full v hf) tt

  signal_lawful : (c : Core) (buf : List ℕ) (x : Signal) → length buf ≤ n → Lawful (on_signal c buf x)
  unfolding on_signal on_trigger calibration_ends settles
  signal_lawful c buf tick h = tick_lawful c buf h
  signal_lawful c buf outside h = outside_lawful c buf h
  signal_lawful c buf trigger h = tt
  signal_lawful c buf passed h = tt
  signal_lawful c buf failed h = tt
  signal_lawful c buf settled h = tt

  pub play_allowed : (c : Core) (buf : List ℕ) (full : Bool) (e : Event) → zero < d → length buf ≤ n → (full ≡ false → n < d)
      → Allowed d n (play c buf full e).op
  unfolding play
  play_allowed c buf full (power_up x) hd h hf = hd
  play_allowed c buf full (write o v) hd h hf = write_lawful c buf full o v hd h hf
  play_allowed c buf full (read o) hd h hf = tt
  play_allowed c buf full (signal x) hd h hf = signal_lawful c buf x h
