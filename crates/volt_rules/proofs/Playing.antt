-- What every event keeps: the range, but for an accepted power-up, and levels of 16 bits.
use Prim.Native.Nat.{ℕ, zero, suc, ◌+◌, ◌%◌, ◌<◌}
use mathlib.Core.Path.{◌≡◌, refl, sym, ap, ◌∙◌, subst}
use mathlib.Core.Bool.{Bool, true, false, true≢false}
use mathlib.Core.List.{List, [], ◌∷◌}
use native.Mathlib.Nat.{mod-lt}
use lib.Dec.{eqb, lit<}
use lib.ListN.{get_or, set, replicate, take}
use Rattle.laws.specs.Types.{Settings, Options, Core, Event, power_up, write, read, signal, Signal, tick, outside, trigger, passed, failed, settled}
use Rattle.rules.specs.Bits.{bit}
use Rattle.rules.specs.Record.{State, stored, unpowered}
use Rattle.rules.specs.Clocks.{Play, closed, moving, coded, laid, targets, moves, clock, tick_accepted, clock_accepted, on_tick, on_outside, on_trigger}
use Rattle.rules.specs.Writes.{initial, write_control, write_mask, write_rate, write_adjust, buffer_of, tried, write_buffer, write_data, on_write}
use Rattle.rules.specs.Play.{calibration_ends, settles, on_signal, play}
use Rattle.rules.specs.Flags.{is_full}
use Rattle.rules.specs.Step.{Outcome, refused, board_before, done, step}
use Rattle.rules.specs.Laws.Refusals.{Ordinary}
use Rattle.rules.proofs.Choice.{either}
use Rattle.rules.proofs.Steps.{step_cases, refusal_answered}
use Rattle.rules.proofs.Initial.{power_up_fresh}
use Rattle.laws.proofs.Offsets.{write_cases}
use Rattle.volt_rules.specs.Counting.{is_power_up, starts_afresh}

-- ---- Levels of 16 bits

abbrev pub Sixteen : List ℕ → Type 0
Sixteen xs = (k : ℕ) → get_or xs k 0 < 65536

set_sixteen : (xs : List ℕ) (j v : ℕ) → v < 65536 → Sixteen xs → Sixteen (set xs j v)
set_sixteen [] j v l h k = h k
set_sixteen (x ∷ xs) zero v l h zero = l
set_sixteen (x ∷ xs) zero v l h (suc k) = h (suc k)
set_sixteen (x ∷ xs) (suc j) v l h zero = h zero
set_sixteen (x ∷ xs) (suc j) v l h (suc k) = set_sixteen xs j v l (λ i. h (suc i)) k

coded_sixteen : (binary : Bool) (v : ℕ) → coded binary v < 65536
unfolding coded
coded_sixteen binary v = either (λ (n : ℕ). n < 65536) binary (mod-lt v (lit< tt)) (mod-lt (v % 65536 + 0x8000) (lit< tt))

laid_sixteen : (binary : Bool) (xs ks vs : List ℕ) → Sixteen xs → Sixteen (laid binary xs ks vs)
unfolding laid
laid_sixteen binary xs [] vs h = h
laid_sixteen binary xs (k ∷ ks) [] h = h
laid_sixteen binary xs (k ∷ ks) (v ∷ vs) h = laid_sixteen binary (set xs k (coded binary v)) ks vs (set_sixteen xs k _ (coded_sixteen binary v) h)

replicate_sixteen : (n v : ℕ) → v < 65536 → Sixteen (replicate n v)
replicate_sixteen zero v l k = lit< tt
replicate_sixteen (suc n) v l zero = l
replicate_sixteen (suc n) v l (suc k) = replicate_sixteen n v l k

-- ---- The range and the levels of a core

abbrev pub Holds : ℕ → Core → Type 0
Holds r c = (c.options.range ≡ r) × Sixteen c.outputs.levels

-- a run starts so
pub start_holds : Holds 0 unpowered.core
unfolding unpowered
start_holds = (refl, replicate_sixteen 20 0 (lit< tt))

module _ (r : ℕ) where
  abbrev Keeps : Play → Type 0
  Keeps p = Holds r p.core

  moves_hold : (c : Core) (buf : List ℕ) (k : ℕ) → Holds r c → Keeps (moves c buf k)
  unfolding moves
  moves_hold c buf zero h = h
  moves_hold c buf (suc k) h = (h.0, laid_sixteen c.control.binary c.outputs.levels (targets c) (take (suc k) buf) h.1)

  outside_holds : (c : Core) (buf : List ℕ) → Holds r c → Keeps (on_outside c buf)
  unfolding on_outside clock
  outside_holds c buf h = either Keeps (clock_accepted c) (moves_hold c buf (moving c buf) h) h

  tick_holds : (c : Core) (buf : List ℕ) → Holds r c → Keeps (on_tick c buf)
  unfolding on_tick clock
  tick_holds c buf h = either Keeps (tick_accepted c) (moves_hold c buf (moving c buf) h) h

  buffer_holds : (c : Core) (buf : List ℕ) (v : ℕ) → Holds r c → Keeps (write_buffer c buf v)
  unfolding write_buffer tried buffer_of
  buffer_holds c buf v h = either Keeps (bit 11 v) h (either Keeps (bit 7 v) (outside_holds (buffer_of v c) buf h) h)

  data_holds : (c : Core) (full : Bool) (v : ℕ) → Holds r c → Keeps (write_data c full v)
  unfolding write_data
  data_holds c full v h = either Keeps (closed c) h (either Keeps full h h)

  write_holds : (c : Core) (buf : List ℕ) (full : Bool) (o v : ℕ) → Holds r c → Keeps (on_write c buf full o v)
  unfolding initial write_control write_mask write_rate write_adjust
  write_holds c buf full o v h =
      write_cases Keeps c buf full o v
      (λ _. (h.0, replicate_sixteen 20 0x8000 (lit< tt)))
      (λ _. h)
      (λ _. h)
      (λ _. h)
      (λ _. buffer_holds c buf v h)
      (λ _. data_holds c full v h)
      h

  signal_holds : (c : Core) (buf : List ℕ) (x : Signal) → Holds r c → Keeps (on_signal c buf x)
  unfolding on_signal on_trigger calibration_ends settles
  signal_holds c buf tick h = tick_holds c buf h
  signal_holds c buf outside h = outside_holds c buf h
  signal_holds c buf trigger h = h
  signal_holds c buf passed h = h
  signal_holds c buf failed h = h
  signal_holds c buf settled h = h

  done_holds : (s : State) (e : Event) → Ordinary e → Holds r s.board.core → Holds r (done s e).state.board.core
  unfolding done board_before play
  done_holds s (power_up x) o h = absurd o
  done_holds s (write a v) o h = write_holds s.board.core (stored s) (is_full s.board.size s.board.ring.count) a v h
  done_holds s (read a) o h = h
  done_holds s (signal x) o h = signal_holds s.board.core (stored s) x h

-- ---- An event

abbrev HoldsAfter : ℕ → Outcome → Type 0
HoldsAfter r o = Holds r o.state.board.core

done_zero : (s : State) (e : Event) → eqb (done s e).answer.refusal 0 ≡ true
unfolding done
done_zero s e = refl

-- any but an accepted power-up
pub event_holds : (r : ℕ) (s : State) (e : Event) → starts_afresh e (step s e) ≡ false → Holds r s.board.core → HoldsAfter r (step s e)
unfolding refused is_power_up
event_holds r s (power_up x) f h =
    step_cases (λ o. eqb o.answer.refusal 0 ≡ false → HoldsAfter r o) s (power_up x)
    (λ _ g. absurd (true≢false (sym (done_zero s (power_up x)) ∙ g)))
    (λ _ _. h)
    f
event_holds r s (write a v) f h = step_cases (HoldsAfter r) s (write a v) (λ _. done_holds r s (write a v) tt h) (λ _. h)
event_holds r s (read a) f h = step_cases (HoldsAfter r) s (read a) (λ _. done_holds r s (read a) tt h) (λ _. h)
event_holds r s (signal x) f h = step_cases (HoldsAfter r) s (signal x) (λ _. done_holds r s (signal x) tt h) (λ _. h)

-- an accepted power-up gives its own range, and midrange on all twenty channels
pub up_fresh : (s : State) (x : Settings) → (step s (power_up x)).answer.refusal ≡ 0
    → (let c : Core = (step s (power_up x)).state.board.core in (c.options.range ≡ x.range) × (c.outputs.levels ≡ replicate 20 0x8000))
up_fresh s x h =
    let f = power_up_fresh s x (sym (refusal_answered s (power_up x)) ∙ h) in
    (ap (λ (o : Options). o.range) f.options, f.levels)

pub up_holds : (s : State) (x : Settings) → (step s (power_up x)).answer.refusal ≡ 0 → HoldsAfter x.range (step s (power_up x))
up_holds s x h =
    let u = up_fresh s x h in
    (u.0, subst Sixteen (sym u.1) (replicate_sixteen 20 0x8000 (lit< tt)))
