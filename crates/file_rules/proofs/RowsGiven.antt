-- A row is refused by a number, or is that of an event, exactly when 02 says so (specs/WritingLaws, Row-exactly, Row-back).
use Prim.Native.Nat.{ℕ, suc, ◌^◌, ◌≤◌, ◌<◌}
use mathlib.Core.Path.{◌≡◌, refl, sym, ap, subst, ◌∙◌}
use mathlib.Core.Logic.{◌≢◌}
use mathlib.Core.Bool.{true, not}
use mathlib.Core.List.{List, [], ◌∷◌}
use native.Mathlib.Omega.{arith}
use borrow.Author.Tests.{lt-ltb, ltb-true, eq-eqb, ne_eqb, eqb-true, eqb-false, not-false}
use lib.Dec.{ltb, eqb}
use lib.ListN.{length}
use Rattle.rules.proofs.Choice.{cases, cond_true, cond_false, and_both}
use Rattle.rules.specs.Refusals.{first_of}
use Rattle.rules.specs.declared.Event.{Event}
use Rattle.rules.specs.declared.Event.TheVariants.{PowerUp as power_up, Write as write, Read as read, Signal as signal}
use Rattle.rules.specs.declared.Signal.TheVariants.{Tick as tick, Outside as outside, Trigger as trigger}
use Rattle.rules.specs.declared.Signal.TheVariants.{Passed as passed, Failed as failed, Settled as settled}
use Rattle.file_rules.specs.File.{length_of, signal_of}
use Rattle.file_rules.specs.Row.{row_of, field, event_of_row}
use Rattle.file_rules.specs.Bytes.{Fits}
use Rattle.file_rules.specs.Writing.{widths, fit_widths, row_refusal}
use Rattle.file_rules.specs.Laws.{Known}
use Rattle.file_rules.specs.Laws.{power_up as known_power_up, write as known_write, read as known_read, signal as known_signal}
use Rattle.file_rules.specs.WritingLaws.{BadRow, unknown_kind, misfit, RowGiven, bad, good, Row-exactly, Row-back}
use Rattle.file_rules.proofs.Lengths.{length_known, unknown_zero, zero_unknown}
use Rattle.file_rules.proofs.Written.{row_read}
use Rattle.file_rules.proofs.Rewritten.{signal_kind_lem}

-- what holds of six numbers holds of each row
six : (P : List ℕ → Type 0) → ((k a b c d e : ℕ) → P (k ∷ a ∷ b ∷ c ∷ d ∷ e ∷ [])) → (r : List ℕ) → length r ≡ 6 → P r
six P f [] h = absurd (omega arith)
six P f (k ∷ []) h = absurd (omega arith)
six P f (k ∷ a ∷ []) h = absurd (omega arith)
six P f (k ∷ a ∷ b ∷ []) h = absurd (omega arith)
six P f (k ∷ a ∷ b ∷ c ∷ []) h = absurd (omega arith)
six P f (k ∷ a ∷ b ∷ c ∷ d ∷ []) h = absurd (omega arith)
six P f (k ∷ a ∷ b ∷ c ∷ d ∷ e ∷ []) h = f k a b c d e
six P f (k ∷ a ∷ b ∷ c ∷ d ∷ e ∷ x ∷ xs) h = absurd (omega arith)

-- a row by its numbers
pub row_numbers : (r : List ℕ) → length r ≡ 6 → r ≡ field r 0 ∷ field r 1 ∷ field r 2 ∷ field r 3 ∷ field r 4 ∷ field r 5 ∷ []
row_numbers = six (λ r. r ≡ field r 0 ∷ field r 1 ∷ field r 2 ∷ field r 3 ∷ field r 4 ∷ field r 5 ∷ []) (λ k a b c d e. refl)

-- ---- The row of an event whose fields fit is good

pub good_row : (e : Event) → Fits e → row_refusal (row_of e) ≡ 0
unfolding row_refusal first_of length_of widths fit_widths
good_row (power_up x) h = rw (lt-ltb _ _ h.0, lt-ltb _ _ h.1, lt-ltb _ _ h.2, lt-ltb _ _ h.3, lt-ltb _ _ h.4)
good_row (write o v) h = rw (lt-ltb _ _ h.0, lt-ltb _ _ h.1)
good_row (read o) h = rw (lt-ltb _ _ h)
good_row (signal tick) h = refl
good_row (signal outside) h = refl
good_row (signal trigger) h = refl
good_row (signal passed) h = refl
good_row (signal failed) h = refl
good_row (signal settled) h = refl

-- so one that is refused is that of no such event
no_row : (r : List ℕ) (n : ℕ) → row_refusal r ≡ suc n → (e : Event) → Fits e → r ≢ row_of e
no_row r n h e f q = omega (arith, sym h ∙ ap row_refusal q ∙ good_row e f)

-- ---- A good row is that of such an event

below : (x w : ℕ) (xs ws : List ℕ) → fit_widths (x ∷ xs) (w ∷ ws) ≡ true → (x < 256 ^ w) × (fit_widths xs ws ≡ true)
unfolding fit_widths
below x w xs ws h = let t = and_both (ltb x (256 ^ w)) (fit_widths xs ws) h in (ltb-true x (256 ^ w) t.0, t.1)

none : (x : ℕ) → x < 256 ^ 0 → x ≡ 0
none x h = omega arith

widths_signal : (kind : ℕ) → 4 ≤ kind → widths kind ≡ 0 ∷ 0 ∷ 0 ∷ 0 ∷ 0 ∷ []
unfolding widths
widths_signal kind h =
    rw (ne_eqb kind 1 (λ e. omega (arith, e)), ne_eqb kind 2 (λ e. omega (arith, e)), ne_eqb kind 3 (λ e. omega (arith, e)))

module _ (a b c d e : ℕ) where
  all_below : (v w x y z : ℕ) → fit_widths (a ∷ b ∷ c ∷ d ∷ e ∷ []) (v ∷ w ∷ x ∷ y ∷ z ∷ []) ≡ true
      → (a < 256 ^ v) × (b < 256 ^ w) × (c < 256 ^ x) × (d < 256 ^ y) × (e < 256 ^ z)
  all_below v w x y z h =
      let p = below a v _ _ h in
      let q = below b w _ _ p.1 in
      let r = below c x _ _ q.1 in
      let s = below d y _ _ r.1 in
      let t = below e z _ _ s.1 in
      (p.0, q.0, r.0, s.0, t.0)

  fitted : (k n : ℕ) → Known k n → fit_widths (a ∷ b ∷ c ∷ d ∷ e ∷ []) (widths k) ≡ true → RowGiven (k ∷ a ∷ b ∷ c ∷ d ∷ e ∷ []) 0
  unfolding widths
  fitted k n known_power_up h =
      good (power_up (record { fitted = a; range = b; filter = c; kit = d; firmware = e })) (all_below 1 1 1 1 2 h) refl
  fitted k n known_write h =
      let f = all_below 1 4 0 0 0 h in
      good (write a b) (f.0, f.1) (λ i. 2 ∷ a ∷ b ∷ none c f.2 i ∷ none d f.3 i ∷ none e f.4 i ∷ [])
  fitted k n known_read h =
      let f = all_below 1 0 0 0 0 h in
      good (read a) f.0 (λ i. 3 ∷ a ∷ none b f.1 i ∷ none c f.2 i ∷ none d f.3 i ∷ none e f.4 i ∷ [])
  fitted k n (known_signal j l m) h =
      let f = all_below 0 0 0 0 0 (ap (fit_widths (a ∷ b ∷ c ∷ d ∷ e ∷ [])) (sym (widths_signal j l)) ∙ h) in
      let kind = sym (signal_kind_lem j l m) in
      good (signal (signal_of j)) tt
      (λ i. kind i ∷ none a f.0 i ∷ none b f.1 i ∷ none c f.2 i ∷ none d f.3 i ∷ none e f.4 i ∷ [])

  -- ---- One of the lines is always given

  six_given : (k : ℕ) → RowGiven (k ∷ a ∷ b ∷ c ∷ d ∷ e ∷ []) (row_refusal (k ∷ a ∷ b ∷ c ∷ d ∷ e ∷ []))
  unfolding row_refusal first_of
  six_given k =
      let r : List ℕ = k ∷ a ∷ b ∷ c ∷ d ∷ e ∷ [] in
      cases (RowGiven r) (eqb (length_of k) 0) (λ t. bad (unknown_kind (zero_unknown k (eqb-true _ _ t)))) (λ u.
      let h = length_known k (eqb-false _ _ u) in
      cases (RowGiven r) (not (fit_widths (a ∷ b ∷ c ∷ d ∷ e ∷ []) (widths k)))
      (λ t. bad (misfit _ h (no_row r 29 (cond_false _ _ _ u ∙ cond_true _ _ _ t))))
      (λ t. fitted k _ h (not-false _ t)))

pub row_given : (r : List ℕ) → length r ≡ 6 → RowGiven r (row_refusal r)
row_given = six (λ r. RowGiven r (row_refusal r)) (λ k a b c d e. six_given a b c d e k)

-- ---- And no other

unknown_13 : (r : List ℕ) → ((n : ℕ) → ¬ Known (field r 0) n) → row_refusal r ≡ 13
unfolding row_refusal first_of
unknown_13 r u = cond_true _ _ _ (eq-eqb _ 0 (unknown_zero _ u))

pub bad_given : (r : List ℕ) (n : ℕ) → length r ≡ 6 → BadRow r n → row_refusal r ≡ n
bad_given r n l (unknown_kind u) = unknown_13 r u
bad_given r n l (misfit k h never) = go _ refl (row_given r l)
  where
    go : (m : ℕ) → row_refusal r ≡ m → RowGiven r m → row_refusal r ≡ 30
    go m q (bad (unknown_kind u)) = absurd (u k h)
    go m q (bad (misfit _ _ _)) = q
    go m q (good e f p) = absurd (never e f p)

pub given_row : (r : List ℕ) (n : ℕ) → length r ≡ 6 → RowGiven r n → row_refusal r ≡ n
given_row r n l (bad b) = bad_given r n l b
given_row r n l (good e f q) = ap row_refusal q ∙ good_row e f

pub row_exactly : Row-exactly
row_exactly r n l = (λ q. subst (RowGiven r) q (row_given r l), given_row r n l)

pub row_back : Row-back
row_back r l z = go ((row_exactly r 0 l).0 z)
  where
    go : RowGiven r 0 → row_of (event_of_row r) ≡ r
    go (bad x) = elim x [ ]
    go (good e f q) = ap (λ (x : List ℕ). row_of (event_of_row x)) q ∙ ap row_of (row_read e) ∙ sym q
