-- A row that is not refused: it is the row of an event whose fields fit, and its record is told by its numbers.
use Prim.Native.Nat.{ℕ, ◌+◌, ◌≤◌, ◌<◌}
use mathlib.Core.Path.{◌≡◌, refl, sym, ap, subst, ◌∙◌}
use mathlib.Core.Logic.{◌≢◌}
use mathlib.Core.Bool.{true, false, not}
use mathlib.Core.List.{List, [], ◌∷◌}
use native.Mathlib.Omega.{arith}
use borrow.Author.Tests.{eq-eqb, ne_eqb}
use lib.Dec.{eqb}
use lib.ListN.{length, drop}
use Rattle.rules.specs.Refusals.{first_of}
use Rattle.rules.proofs.Choice.{cond_true, cond_false}
use Rattle.rules.specs.declared.Event.{Event}
use Rattle.rules.specs.declared.Event.TheVariants.{PowerUp as power_up, Write as write, Read as read, Signal as signal}
use Rattle.rules.specs.declared.Signal.{Signal}
use Rattle.file_rules.specs.File.{length_of}
use Rattle.file_rules.specs.Bytes.{signal_kind, kind_of, two, fields_of, bytes_of, Fits}
use Rattle.file_rules.specs.Row.{row_of, field, event_of_row}
use Rattle.file_rules.specs.Writing.{widths, fit_widths, row_refusal}
use Rattle.file_rules.specs.WritingLaws.{RowGiven, bad, good}
use Rattle.file_rules.proofs.Lengths.{known_length}
use Rattle.file_rules.proofs.Written.{known, row_read}
use Rattle.file_rules.proofs.RowsGiven.{row_exactly}
use Rattle.kinds.specs.declared.Kind.{Kind}
use Rattle.kinds.specs.declared.Kind.TheVariants.{PowerUp, Write, Read, Signal as SignalKind}
use Rattle.kinds.specs.Numbers.{kind_number}
use Rattle.writer.specs.Records.{record_of}

-- what holds of the rows of events whose fields fit holds of a good row and its event
of_event : (P : List ℕ → Event → Type 0) → ((e : Event) → Fits e → P (row_of e) e)
    → (r : List ℕ) → length r ≡ 6 → row_refusal r ≡ 0 → P r (event_of_row r)
of_event P f r l z = go ((row_exactly r 0 l).0 z)
  where
    go : RowGiven r 0 → P r (event_of_row r)
    go (bad x) = elim x [ ]
    go (good e h q) = subst (λ (x : List ℕ). P x (event_of_row x)) (sym q) (subst (P (row_of e)) (sym (row_read e)) (f e h))

-- ---- Its length

kind_of_row : (e : Event) → field (row_of e) 0 ≡ kind_of e
kind_of_row (power_up x) = refl
kind_of_row (write o v) = refl
kind_of_row (read o) = refl
kind_of_row (signal x) = refl

row_told : (e : Event) → length_of (field (row_of e) 0) ≡ length (kind_of e ∷ fields_of e)
row_told e = ap length_of (kind_of_row e) ∙ known_length _ _ (known e)

pub row_bytes_length : (r : List ℕ) → length r ≡ 6 → row_refusal r ≡ 0 → length (bytes_of (event_of_row r)) ≡ 2 + length_of (field r 0)
row_bytes_length = of_event (λ r e. length (bytes_of e) ≡ 2 + length_of (field r 0)) (λ e h. omega (arith, row_told e))

-- a signal's kind is none that has fields
signal_kind_not : (x : Signal) (k : ℕ) → length_of k ≢ 1 → signal_kind x ≢ k
signal_kind_not x k h e = h (ap length_of (sym e) ∙ known_length _ _ (known (signal x)))

-- ---- Its record, by its kind

-- a power-up's
pub record PowerUpRow (r : List ℕ) (e : Event) : Type 0 where
  pub fitted : field r 1 < 256
  pub range : field r 2 < 256
  pub filter : field r 3 < 256
  pub kit : field r 4 < 256
  pub firmware : field r 5 < 65536
  pub bytes : record_of 1 (field r 1 ∷ field r 2 ∷ field r 3 ∷ field r 4 ∷ two (field r 5)) ≡ bytes_of e

pub power_up_row : (r : List ℕ) → length r ≡ 6 → row_refusal r ≡ 0 → field r 0 ≡ 1 → PowerUpRow r (event_of_row r)
unfolding length_of
power_up_row = of_event (λ r e. field r 0 ≡ 1 → PowerUpRow r e) told
  where
    told : (e : Event) → Fits e → field (row_of e) 0 ≡ 1 → PowerUpRow (row_of e) e
    told (power_up x) h k = record { fitted = h.0; range = h.1; filter = h.2; kit = h.3; firmware = h.4; bytes = refl }
    told (write o v) h k = absurd (omega (arith, k))
    told (read o) h k = absurd (omega (arith, k))
    told (signal x) h k = absurd (signal_kind_not x 1 (λ e. omega (arith, e)) k)

-- a write's
pub record WriteRow (r : List ℕ) (e : Event) : Type 0 where
  pub offset : field r 1 < 256
  pub bytes : bytes_of (write (field r 1) (field r 2)) ≡ bytes_of e

pub write_row : (r : List ℕ) → length r ≡ 6 → row_refusal r ≡ 0 → field r 0 ≡ 2 → WriteRow r (event_of_row r)
unfolding length_of
write_row = of_event (λ r e. field r 0 ≡ 2 → WriteRow r e) told
  where
    told : (e : Event) → Fits e → field (row_of e) 0 ≡ 2 → WriteRow (row_of e) e
    told (power_up x) h k = absurd (omega (arith, k))
    told (write o v) h k = record { offset = h.0; bytes = refl }
    told (read o) h k = absurd (omega (arith, k))
    told (signal x) h k = absurd (signal_kind_not x 2 (λ e. omega (arith, e)) k)

-- a read's
pub record ReadRow (r : List ℕ) (e : Event) : Type 0 where
  pub offset : field r 1 < 256
  pub bytes : record_of 3 (field r 1 ∷ []) ≡ bytes_of e

pub read_row : (r : List ℕ) → length r ≡ 6 → row_refusal r ≡ 0 → field r 0 ≡ 3 → ReadRow r (event_of_row r)
unfolding length_of
read_row = of_event (λ r e. field r 0 ≡ 3 → ReadRow r e) told
  where
    told : (e : Event) → Fits e → field (row_of e) 0 ≡ 3 → ReadRow (row_of e) e
    told (power_up x) h k = absurd (omega (arith, k))
    told (write o v) h k = absurd (omega (arith, k))
    told (read o) h k = record { offset = h; bytes = refl }
    told (signal x) h k = absurd (signal_kind_not x 3 (λ e. omega (arith, e)) k)

-- a signal's
pub signal_row : (s : Signal) (r : List ℕ) → length r ≡ 6 → row_refusal r ≡ 0 → signal_kind s ≡ field r 0 → record_of (field r 0) [] ≡ bytes_of (event_of_row r)
unfolding length_of
signal_row s = of_event (λ r e. signal_kind s ≡ field r 0 → record_of (field r 0) [] ≡ bytes_of e) told
  where
    told : (e : Event) → Fits e → signal_kind s ≡ field (row_of e) 0 → record_of (field (row_of e) 0) [] ≡ bytes_of e
    told (power_up x) h k = absurd (signal_kind_not s 1 (λ e. omega (arith, e)) k)
    told (write o v) h k = absurd (signal_kind_not s 2 (λ e. omega (arith, e)) k)
    told (read o) h k = absurd (signal_kind_not s 3 (λ e. omega (arith, e)) k)
    told (signal x) h k = refl

-- ---- How a row is judged

pub unknown_refused : (r : List ℕ) → length_of (field r 0) ≡ 0 → row_refusal r ≡ 13
unfolding row_refusal first_of
unknown_refused r z = cond_true _ _ _ (eq-eqb _ 0 z)

some_length : (k : Kind) → 1 ≤ length_of (kind_number k)
unfolding length_of
some_length PowerUp = omega arith
some_length Write = omega arith
some_length Read = omega arith
some_length (SignalKind x) = omega (arith, known_length _ _ (known (signal x)))

module _ (r : List ℕ) (k : Kind) (n : kind_number k ≡ field r 0) where
  pub kind_long : 1 ≤ length_of (field r 0)
  kind_long = subst (λ (x : ℕ). 1 ≤ length_of x) n (some_length k)

  known_kind : eqb (length_of (field r 0)) 0 ≡ false
  known_kind = ne_eqb _ 0 (λ z. omega (arith, z, kind_long))

  pub misfit_refused : fit_widths (drop 1 r) (widths (kind_number k)) ≡ false → row_refusal r ≡ 30
  unfolding row_refusal first_of
  misfit_refused e =
      cond_false _ _ _ known_kind ∙ cond_true _ _ _ (ap (λ (x : ℕ). not (fit_widths (drop 1 r) (widths x))) (sym n) ∙ ap not e)

  pub fitting_good : fit_widths (drop 1 r) (widths (kind_number k)) ≡ true → row_refusal r ≡ 0
  unfolding row_refusal first_of
  fitting_good e =
      cond_false _ _ _ known_kind ∙ cond_false _ _ _ (ap (λ (x : ℕ). not (fit_widths (drop 1 r) (widths x))) (sym n) ∙ ap not e)
