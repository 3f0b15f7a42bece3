-- Each refusal number is given exactly when Laws/Refusals says.
use Prim.Native.Nat.{ℕ, ◌*◌, ◌/◌, ◌%◌, ◌≤◌, ◌<◌}
use mathlib.Core.Path.{◌≡◌, refl, sym, ◌∙◌, subst}
use mathlib.Core.Logic.{◌≢◌, ◌⊎◌, inl, inr}
use mathlib.Core.Bool.{true, false, not, ◌||◌, cond, true≢false, false≢true}
use native.Mathlib.Omega.{arith}
use borrow.Author.Tests.{ltb-true, ltb-false, leb-true, leb-false, le-leb, lt-leb, lt-ltb, le-ltb, eqb-true, eqb-false, ne_eqb}
use lib.Dec.{leb, ltb, eqb}
use lib.ListN.{length, replicate, length-replicate}
use Rattle.rules.specs.Types.{Settings, Event, power_up, write, read, signal, Signal, tick, outside, trigger, passed, failed, settled}
use Rattle.rules.specs.Bits.{some}
use Rattle.rules.specs.Record.{State, depth_of, depth, sound, start}
use Rattle.rules.specs.Registers.{registers, is_offset}
use Rattle.rules.specs.Refusals.{first_of, setting_rows, setting_refusal, too_short, is_read_only, ends_nothing, standing, rows, refusal}
use Rattle.rules.specs.Laws.Soundness.{Sound, Stands}
use Rattle.rules.specs.Laws.Refusals.{InRange, Offset, Ordinary, Heard, a_tick, a_clock, a_trigger, EndsCalibration, a_pass, a_failure, Given, bad_fitted, bad_range, bad_filter, bad_kit, bad_firmware, short_for_power_up, short, unsound, no_such_write, no_such_read, read_only, calibrating, no_calibration, not_settling, powered_up, written, read_out, heard, calibration_ended, has_settled, Refusal-exactly}
use Rattle.rules.proofs.Choice.{cond_zero, cases, or_neither, or_cases, not_true, not_both, not_not, up_to, up_to_at}
use Rattle.rules.proofs.Own.{power_up_own}
use Rattle.rules.proofs.Soundness.{sound_exactly}

-- ---- The tests are the words

-- a setting within its bound, and one above it
within : (n bound : ℕ) → not (leb n bound) ≡ false → n ≤ bound
within n bound h = leb-true n bound (not_not (leb n bound) h)

above : (n bound : ℕ) → not (leb n bound) ≡ true → bound < n
above n bound h = leb-false n bound (not_true (leb n bound) (not_both (leb n bound) h))

none_bad : (x : Settings) → InRange x → setting_refusal x ≡ 0
unfolding setting_refusal setting_rows first_of
none_bad x h = rw (le-leb _ _ h.fitted, le-leb _ _ h.range, le-leb _ _ h.filter, le-leb _ _ h.kit, le-leb _ _ h.firmware)

offset_at : (o k : ℕ) → k % 4 ≡ 0 → k ≤ 0x1C → eqb o k ≡ true → Offset o
offset_at o k a l h = let e = eqb-true o k h in record { aligned = rw e a; low = rw e l }

offset_to : (o : ℕ) → is_offset o ≡ true → Offset o
unfolding is_offset registers some
offset_to o h =
    or_cases (eqb o 0x00) _ h (offset_at o 0x00 refl (omega arith)) (λ h.
    or_cases (eqb o 0x04) _ h (offset_at o 0x04 refl (omega arith)) (λ h.
    or_cases (eqb o 0x08) _ h (offset_at o 0x08 refl (omega arith)) (λ h.
    or_cases (eqb o 0x0C) _ h (offset_at o 0x0C refl (omega arith)) (λ h.
    or_cases (eqb o 0x10) _ h (offset_at o 0x10 refl (omega arith)) (λ h.
    or_cases (eqb o 0x14) _ h (offset_at o 0x14 refl (omega arith)) (λ h.
    or_cases (eqb o 0x18) _ h (offset_at o 0x18 refl (omega arith)) (λ h.
    or_cases (eqb o 0x1C) _ h (offset_at o 0x1C refl (omega arith)) (λ h.
    absurd (false≢true h)))))))))

eight : up_to 8 (λ q. is_offset (4 * q)) ≡ true
unfolding up_to is_offset registers some
eight = refl

offset_from : (o : ℕ) → Offset o → is_offset o ≡ true
offset_from o h =
    let e : o ≡ 4 * (o / 4) = omega (arith, h.aligned) in
    subst (λ (x : ℕ). is_offset x ≡ true) (sym e) (up_to_at 8 (λ q. is_offset (4 * q)) eight (o / 4) (omega (arith, h.low)))

-- ---- From the number to the table

module _ (s : State) where
  -- the tests for 3 and 2 come first, whatever the event's own number is
  stands_to : (e : Event) (own : ℕ) → Ordinary e → (Stands s → Given s e own)
      → Given s e (cond (not (sound s.board)) 3 (cond (too_short s.memory (depth s.board)) 2 own))
  stands_to e own o f =
      cases (Given s e) (not (sound s.board)) (λ h. unsound o (λ k. not_both (sound s.board) h ((sound_exactly s.board).1 k))) (λ h.
      let k = (sound_exactly s.board).0 (not_not (sound s.board) h) in
      cases (Given s e) (ltb (length s.memory) (depth s.board)) (λ l. short o k (ltb-true _ _ l)) (λ l.
      f (record { sound = k; enough = ltb-false _ _ l })))

  no_offset : (o : ℕ) → not (is_offset o) ≡ true → ¬ Offset o
  no_offset o h k = not_both (is_offset o) h (offset_from o k)

  an_offset : (o : ℕ) → not (is_offset o) ≡ false → Offset o
  an_offset o h = offset_to o (not_not (is_offset o) h)

  write_to : (o v : ℕ) → Stands s → Given s (write o v) (cond (not (is_offset o)) 4 (cond (is_read_only o) 5 (cond s.board.core.calibration.running 6 0)))
  write_to o v st =
      cases (Given s (write o v)) (not (is_offset o)) (λ h. no_such_write st (no_offset o h)) (λ h.
      cases (Given s (write o v)) (eqb o 0x10 || eqb o 0x14)
      (λ k. read_only st (or_cases (eqb o 0x10) (eqb o 0x14) k (λ e. inl (eqb-true _ _ e)) (λ e. inr (eqb-true _ _ e)))) (λ k.
      let n = or_neither (eqb o 0x10) (eqb o 0x14) k in
      let m : o ≢ 0x10 = eqb-false _ _ n.0 in
      let m' : o ≢ 0x14 = eqb-false _ _ n.1 in
      cases (Given s (write o v)) s.board.core.calibration.running (λ c. calibrating st (an_offset o h) m m' c) (λ c.
      written st (an_offset o h) m m' (λ c'. true≢false (sym c' ∙ c)))))

  ends_to : (x : Signal) → EndsCalibration x → Stands s → Given s (signal x) (cond (not s.board.core.calibration.running) 7 0)
  ends_to x w st =
      cases (Given s (signal x)) (not s.board.core.calibration.running) (λ h. no_calibration w st (not_both _ h))
      (λ h. calibration_ended w st (not_not _ h))

  signal_to : (x : Signal) → Stands s → Given s (signal x) (cond (ends_nothing s.board.core x) 7 0)
  unfolding ends_nothing
  signal_to tick st = heard a_tick st
  signal_to outside st = heard a_clock st
  signal_to trigger st = heard a_trigger st
  signal_to passed st = ends_to passed a_pass st
  signal_to failed st = ends_to failed a_failure st
  signal_to settled st =
      cases (Given s (signal settled)) (not s.board.core.clock.settling) (λ h. not_settling st (not_true _ (not_both _ h)))
      (λ h. has_settled st (not_not _ h))

  given : (e : Event) → Given s e (refusal s e)
  unfolding refusal rows setting_rows standing first_of
  given (power_up x) =
      cases (Given s (power_up x)) (not (leb x.fitted 15)) (λ h. bad_fitted (above _ _ h)) (λ h.
      let d = within x.fitted 15 h in
      cases (Given s (power_up x)) (not (leb x.range 2)) (λ h. bad_range d (above _ _ h)) (λ h.
      let r = within x.range 2 h in
      cases (Given s (power_up x)) (not (leb x.filter 2)) (λ h. bad_filter d r (above _ _ h)) (λ h.
      let f = within x.filter 2 h in
      cases (Given s (power_up x)) (not (leb x.kit 2)) (λ h. bad_kit d r f (above _ _ h)) (λ h.
      let k = within x.kit 2 h in
      cases (Given s (power_up x)) (not (leb x.firmware 4095)) (λ h. bad_firmware d r f k (above _ _ h)) (λ h.
      let good : InRange x = record { fitted = d; range = r; filter = f; kit = k; firmware = within x.firmware 4095 h } in
      cases (Given s (power_up x)) (ltb (length s.memory) (depth_of x.fitted)) (λ l. short_for_power_up good (ltb-true _ _ l)) (λ l.
      powered_up good (ltb-false _ _ l)))))))
  given (write o v) = stands_to (write o v) _ tt (write_to o v)
  given (read o) =
      stands_to (read o) _ tt (λ st.
      cases (Given s (read o)) (not (is_offset o)) (λ h. no_such_read st (no_offset o h)) (λ h. read_out st (an_offset o h)))
  given (signal x) = stands_to (signal x) _ tt (signal_to x)

  -- ---- From the table to the number

  stands_own : Stands s → (own : ℕ) → cond (not (sound s.board)) 3 (cond (too_short s.memory (depth s.board)) 2 own) ≡ own
  stands_own st own = rw ((sound_exactly s.board).1 st.sound, le-ltb _ _ st.enough)

  offset_none : (o : ℕ) → ¬ Offset o → is_offset o ≡ false
  offset_none o h = not_true _ (λ k. h (offset_to o k))

  open_offset : (o : ℕ) → o ≢ 0x10 → o ≢ 0x14 → is_read_only o ≡ false
  open_offset o h k = rw (ne_eqb o 0x10 h, ne_eqb o 0x14 k)

  shut_offset : (o : ℕ) → (o ≡ 0x10) ⊎ (o ≡ 0x14) → (is_offset o ≡ true) × (is_read_only o ≡ true)
  unfolding is_offset registers some
  shut_offset o (inl e) = (rw e, rw e)
  shut_offset o (inr e) = (rw e, rw e)

  unsound_first : ¬ Sound s.board → (n : ℕ) → cond (not (sound s.board)) 3 n ≡ 3
  unsound_first h n = rw (not_true (sound s.board) (λ k. h ((sound_exactly s.board).0 k)))

  short_second : Sound s.board → length s.memory < depth s.board → (n : ℕ)
      → cond (not (sound s.board)) 3 (cond (too_short s.memory (depth s.board)) 2 n) ≡ 2
  short_second h l n = rw ((sound_exactly s.board).1 h, lt-ltb _ _ l)

  unsound_any : (e : Event) → Ordinary e → ¬ Sound s.board → refusal s e ≡ 3
  unfolding refusal rows standing first_of
  unsound_any (power_up x) o h = absurd o
  unsound_any (write a v) o h = unsound_first h _
  unsound_any (read a) o h = unsound_first h _
  unsound_any (signal x) o h = unsound_first h _

  short_any : (e : Event) → Ordinary e → Sound s.board → length s.memory < depth s.board → refusal s e ≡ 2
  unfolding refusal rows standing first_of
  short_any (power_up x) o h l = absurd o
  short_any (write a v) o h l = short_second h l _
  short_any (read a) o h l = short_second h l _
  short_any (signal x) o h l = short_second h l _

  heard_none : (x : Signal) → Heard x → ends_nothing s.board.core x ≡ false
  unfolding ends_nothing
  heard_none _ a_tick = refl
  heard_none _ a_clock = refl
  heard_none _ a_trigger = refl

  ends_is : (x : Signal) → EndsCalibration x → ends_nothing s.board.core x ≡ not s.board.core.calibration.running
  unfolding ends_nothing
  ends_is _ a_pass = refl
  ends_is _ a_failure = refl

  number : {e : Event} {n : ℕ} → Given s e n → refusal s e ≡ n
  unfolding refusal rows setting_rows standing first_of
  number (bad_fitted {x} h) = rw (lt-leb _ _ h)
  number (bad_range {x} d h) = rw (le-leb _ _ d, lt-leb _ _ h)
  number (bad_filter {x} d r h) = rw (le-leb _ _ d, le-leb _ _ r, lt-leb _ _ h)
  number (bad_kit {x} d r f h) = rw (le-leb _ _ d, le-leb _ _ r, le-leb _ _ f, lt-leb _ _ h)
  number (bad_firmware {x} d r f k h) = rw (le-leb _ _ d, le-leb _ _ r, le-leb _ _ f, le-leb _ _ k, lt-leb _ _ h)
  number (short_for_power_up {x} h l) = power_up_own s x ∙ rw (none_bad x h, lt-ltb _ _ l)
  number (short {e} o h l) = short_any e o h l
  number (unsound {e} o h) = unsound_any e o h
  number (no_such_write {o} {v} st h) = stands_own st _ ∙ rw (offset_none o h)
  number (no_such_read {o} st h) = stands_own st _ ∙ rw (offset_none o h)
  number (read_only {o} {v} st h) = let t = shut_offset o h in stands_own st _ ∙ rw (t.0, t.1)
  number (calibrating {o} {v} st h m m' c) = stands_own st _ ∙ rw (offset_from o h, open_offset o m m', c)
  number (no_calibration {x} w st h) = stands_own st _ ∙ rw (ends_is x w, not_true _ h)
  number (not_settling st h) = unfold ends_nothing in stands_own st _ ∙ rw h
  number (powered_up {x} h l) = power_up_own s x ∙ rw (none_bad x h, le-ltb _ _ l)
  number (written {o} {v} st h m m' c) = stands_own st _ ∙ rw (offset_from o h, open_offset o m m', not_true _ c)
  number (read_out {o} st h) = stands_own st _ ∙ rw (offset_from o h)
  number (heard {x} w st) = stands_own st _ ∙ rw (heard_none x w)
  number (calibration_ended {x} w st h) = stands_own st _ ∙ rw (ends_is x w, h)
  number (has_settled st h) = unfold ends_nothing in stands_own st _ ∙ rw h

pub refusal_exactly : Refusal-exactly
refusal_exactly s e n = (λ h. subst (Given s e) h (given s e), number s)

-- ---- A power-up that is done had its settings in range, and a memory of at least the depth

accepted : {s : State} {x : Settings} → Given s (power_up x) 0 → InRange x × (depth_of x.fitted ≤ length s.memory)
accepted (powered_up h l) = (h, l)

pub power_up_accepted : (s : State) (x : Settings) → refusal s (power_up x) ≡ 0 → InRange x × (depth_of x.fitted ≤ length s.memory)
power_up_accepted s x h = accepted ((refusal_exactly s (power_up x) 0).0 h)

-- where none is bad they are in range: over enough memory such a power-up is done
pub none_bad_in_range : (x : Settings) → setting_refusal x ≡ 0 → InRange x
none_bad_in_range x h =
    let s : State = start (replicate (depth_of x.fitted) 0) in
    let l = length-replicate {A = ℕ} (depth_of x.fitted) 0 in
    (power_up_accepted s x (power_up_own s x ∙ rw (h, le-ltb (length s.memory) (depth_of x.fitted) (omega (arith, l))))).0

-- ---- Any other event that is done found a sound record over enough memory

zero_stands : (s : State) (n : ℕ) → cond (not (sound s.board)) 3 (cond (too_short s.memory (depth s.board)) 2 n) ≡ 0 → Stands s
zero_stands s n h =
    let a = cond_zero (not (sound s.board)) 2 _ h in
    let b = cond_zero (ltb (length s.memory) (depth s.board)) 1 n a.1 in
    record { sound = (sound_exactly s.board).0 (not_not _ a.0); enough = ltb-false _ _ b.0 }

pub refusal_stands : (s : State) (e : Event) → Ordinary e → refusal s e ≡ 0 → Stands s
unfolding refusal rows standing first_of
refusal_stands s (power_up x) o h = absurd o
refusal_stands s (write a v) o h = zero_stands s _ h
refusal_stands s (read a) o h = zero_stands s _ h
refusal_stands s (signal x) o h = zero_stands s _ h
