-- What is written of a good file's events is that file (specs/Laws, File-written).
use Prim.Native.Nat.{ℕ, zero, suc, ◌+◌, ◌*◌, ◌/◌, ◌%◌, ◌^◌, ◌≤◌, ◌<◌}
use mathlib.Core.Path.{◌≡◌, refl, sym, ap, subst, ◌∙◌}
use mathlib.Core.Bool.{Bool, true, false, ◌||◌}
use mathlib.Core.List.{List, [], ◌∷◌, ◌++◌}
use native.Mathlib.Omega.{arith}
use borrow.Author.Tests.{eqb-true, eqb-false, ne_eqb, le-ltb}
use lib.Dec.{eqb, ltb}
use lib.ListN.{length, drop, drop_of_length-le}
use lib.Seq.{drop-cons}
use Rattle.rules.specs.declared.Settings.{Settings}
use Rattle.rules.specs.declared.Event.TheVariants.{PowerUp as power_up, Write as write, Read as read, Signal as signal}
use Rattle.file_rules.specs.declared.Fault.{Fault}
use Rattle.file_rules.specs.declared.Fault.TheVariants.{Version}
use Rattle.file_rules.specs.Item.{File, Refused}
use Rattle.file_rules.specs.Item.{Item}
use Rattle.file_rules.specs.Item.{Got, Over}
use Rattle.file_rules.specs.File.{byte_at, word_at, quad_at, settings_at, signal_of, event_of, event_at, record_at, item_at, Session, on_item, from, session}
use Rattle.file_rules.specs.Bytes.{signal_kind, two, four, bytes_of, records_of, file_of, Fits, AllFit, none, next}
use Rattle.file_rules.specs.Laws.{Known, Record, ended, half_length, short_body, length_zero, unknown, length_wrong, event, Reached, opened, passed, File-written}
use Rattle.file_rules.specs.Laws.{ItemGiven, bad_version, first, later}
use Rattle.file_rules.specs.Laws.{power_up as known_power_up, write as known_write, read as known_read, signal as known_signal}
use Rattle.file_rules.proofs.Lengths.{known_some}
use Rattle.file_rules.proofs.Given.{given_one, item_given}
use Rattle.file_rules.proofs.Walk.{reached_within, reached_item, session_opened, version_ends}
use Rattle.rules.proofs.Choice.{up_to, up_to_at}

-- ---- Numbers and their bytes

high_of : (x y : ℕ) → x < 256 → y < 256 → (256 * x + y) / 256 % 256 ≡ x
high_of x y h k = omega arith

low_of : (x y : ℕ) → y < 256 → (256 * x + y) % 256 ≡ y
low_of x y k = omega arith

upper_of : (h l : ℕ) → l < 65536 → (65536 * h + l) / 65536 ≡ h
upper_of h l k = omega arith

lower_of : (h l : ℕ) → l < 65536 → (65536 * h + l) % 65536 ≡ l
lower_of h l k = omega arith

signals : up_to 10 (λ k. ltb k 4 || eqb (signal_kind (signal_of k)) k) ≡ true
unfolding up_to signal_of
signals = refl

pub signal_kind_lem : (k : ℕ) → 4 ≤ k → k ≤ 9 → signal_kind (signal_of k) ≡ k
signal_kind_lem k h l = eqb-true _ k (rw (le-ltb k 4 h) at (up_to_at 10 (λ j. ltb j 4 || eqb (signal_kind (signal_of j)) j) signals k (omega arith)))

signal_event : (k o v : ℕ) (x : Settings) → 4 ≤ k → event_of k o v x ≡ signal (signal_of k)
unfolding event_of
signal_event k o v x h =
    rw (ne_eqb k 1 (λ e. omega (arith, e)), ne_eqb k 2 (λ e. omega (arith, e)), ne_eqb k 3 (λ e. omega (arith, e)))

-- ---- A part of a file

part : List ℕ → ℕ → ℕ → List ℕ
part s at zero = []
part s at (suc k) = byte_at s at ∷ part s (at + 1) k

drop_part : (s : List ℕ) (k at : ℕ) → at + k ≤ length s → drop at s ≡ part s at k ++ drop (at + k) s
unfolding part
drop_part s zero at h = let e : at ≡ at + 0 = omega arith in ap (λ (n : ℕ). drop n s) e
drop_part s (suc k) at h =
    let here : suc at ≡ at + 1 = omega arith in
    let there : at + 1 + k ≡ at + suc k = omega arith in
    drop-cons s at 0 (omega arith)
    ∙ (λ i. byte_at s at ∷ drop (here i) s)
    ∙ (λ i. byte_at s at ∷ drop_part s k (at + 1) (omega arith) i)
    ∙ (λ i. byte_at s at ∷ (part s (at + 1) k ++ drop (there i) s))

module _ (s : List ℕ) (bytes : (i : ℕ) → byte_at s i < 256) where
  -- two bytes are those of their number
  two_bytes : (p : ℕ) → two (word_at s p) ≡ byte_at s p ∷ byte_at s (p + 1) ∷ []
  two_bytes p = λ i. high_of (byte_at s p) (byte_at s (p + 1)) (bytes p) (bytes (p + 1)) i ∷ low_of (byte_at s p) (byte_at s (p + 1)) (bytes (p + 1)) i ∷ []

  word_small : (p : ℕ) → word_at s p < 65536
  word_small p = omega (arith, bytes p, bytes (p + 1))

  four_bytes : (p : ℕ) → four (quad_at s p) ≡ two (word_at s p) ++ two (word_at s (p + 2))
  four_bytes p = λ i. two (upper_of (word_at s p) (word_at s (p + 2)) (word_small (p + 2)) i) ++ two (lower_of (word_at s p) (word_at s (p + 2)) (word_small (p + 2)) i)

  b : (p q : ℕ) → p ≡ q → byte_at s p ≡ byte_at s q
  b p q r = ap (byte_at s) r

  of_kind : (at k : ℕ) → byte_at s (at + 2) ≡ k
      → event_at s (at + 2) ≡ event_of k (byte_at s (at + 2 + 1)) (quad_at s (at + 2 + 2)) (settings_at s (at + 2 + 1))
  unfolding event_at
  of_kind at k e = ap (λ (m : ℕ). event_of m (byte_at s (at + 2 + 1)) (quad_at s (at + 2 + 2)) (settings_at s (at + 2 + 1))) e

  record_bytes : (at k n : ℕ) → Known k n → byte_at s (at + 2) ≡ k → word_at s at ≡ n → part s at (2 + n) ≡ bytes_of (event_at s (at + 2))
  unfolding part event_at event_of
  record_bytes at k n known_power_up e w =
      let high : byte_at s at ≡ 0 = omega (arith, w) in
      let low : byte_at s (at + 1) ≡ 7 = omega (arith, w) in
      let own : event_at s (at + 2) ≡ power_up (settings_at s (at + 2 + 1)) = of_kind at _ e in
      let x = settings_at s (at + 2 + 1) in
      (λ i.
      high i ∷ low i ∷ (b (at + 1 + 1) (at + 2) (omega arith) ∙ e) i
      ∷ b (at + 1 + 1 + 1) (at + 2 + 1) (omega arith) i
      ∷ b (at + 1 + 1 + 1 + 1) (at + 2 + 1 + 1) (omega arith) i
      ∷ b (at + 1 + 1 + 1 + 1 + 1) (at + 2 + 1 + 2) (omega arith) i
      ∷ b (at + 1 + 1 + 1 + 1 + 1 + 1) (at + 2 + 1 + 3) (omega arith) i
      ∷ b (at + 1 + 1 + 1 + 1 + 1 + 1 + 1) (at + 2 + 1 + 4) (omega arith) i
      ∷ b (at + 1 + 1 + 1 + 1 + 1 + 1 + 1 + 1) (at + 2 + 1 + 4 + 1) (omega arith) i
      ∷ [])
      ∙ (λ i. 0 ∷ 7 ∷ 1 ∷ x.fitted ∷ x.range ∷ x.filter ∷ x.kit ∷ sym (two_bytes (at + 2 + 1 + 4)) i)
      ∙ ap bytes_of (sym own)
  record_bytes at k n known_write e w =
      let high : byte_at s at ≡ 0 = omega (arith, w) in
      let low : byte_at s (at + 1) ≡ 6 = omega (arith, w) in
      let own : event_at s (at + 2) ≡ write (byte_at s (at + 2 + 1)) (quad_at s (at + 2 + 2)) = of_kind at _ e in
      (λ i.
      high i ∷ low i ∷ (b (at + 1 + 1) (at + 2) (omega arith) ∙ e) i
      ∷ b (at + 1 + 1 + 1) (at + 2 + 1) (omega arith) i
      ∷ b (at + 1 + 1 + 1 + 1) (at + 2 + 2) (omega arith) i
      ∷ b (at + 1 + 1 + 1 + 1 + 1) (at + 2 + 2 + 1) (omega arith) i
      ∷ b (at + 1 + 1 + 1 + 1 + 1 + 1) (at + 2 + 2 + 2) (omega arith) i
      ∷ b (at + 1 + 1 + 1 + 1 + 1 + 1 + 1) (at + 2 + 2 + 2 + 1) (omega arith) i
      ∷ [])
      ∙ (λ i. 0 ∷ 6 ∷ 2 ∷ byte_at s (at + 2 + 1) ∷ (sym (two_bytes (at + 2 + 2)) i ++ sym (two_bytes (at + 2 + 2 + 2)) i))
      ∙ (λ i. 0 ∷ 6 ∷ 2 ∷ byte_at s (at + 2 + 1) ∷ sym (four_bytes (at + 2 + 2)) i)
      ∙ ap bytes_of (sym own)
  record_bytes at k n known_read e w =
      let high : byte_at s at ≡ 0 = omega (arith, w) in
      let low : byte_at s (at + 1) ≡ 2 = omega (arith, w) in
      let own : event_at s (at + 2) ≡ read (byte_at s (at + 2 + 1)) = of_kind at _ e in
      (λ i. high i ∷ low i ∷ (b (at + 1 + 1) (at + 2) (omega arith) ∙ e) i ∷ b (at + 1 + 1 + 1) (at + 2 + 1) (omega arith) i ∷ [])
      ∙ ap bytes_of (sym own)
  record_bytes at k n (known_signal j a c) e w =
      let high : byte_at s at ≡ 0 = omega (arith, w) in
      let low : byte_at s (at + 1) ≡ 1 = omega (arith, w) in
      let here = b (at + 1 + 1) (at + 2) (omega arith) in
      let own : event_at s (at + 2) ≡ signal (signal_of j) = of_kind at _ e ∙ signal_event j _ _ _ a in
      (λ i. high i ∷ low i ∷ (here ∙ e ∙ sym (signal_kind_lem j a c)) i ∷ []) ∙ ap bytes_of (sym own)

  -- ---- The event of a record of bytes has fields that fit

  quad_small : (p : ℕ) → quad_at s p < 2 ^ 32
  quad_small p = omega (arith, word_small p, word_small (p + 2))

  event_fits : (at k n : ℕ) → Known k n → byte_at s (at + 2) ≡ k → Fits (event_at s (at + 2))
  unfolding event_of
  event_fits at k n known_power_up e = subst Fits (sym (of_kind at _ e)) (bytes _, bytes _, bytes _, bytes _, word_small _)
  event_fits at k n known_write e = subst Fits (sym (of_kind at _ e)) (bytes _, quad_small _)
  event_fits at k n known_read e = subst Fits (sym (of_kind at _ e)) (bytes _)
  event_fits at k n (known_signal j a c) e = subst Fits (sym (of_kind at _ e ∙ signal_event j _ _ _ a)) tt

  abbrev Fitting : Item → Type 0
  Fitting (Got e place) = Fits e
  Fitting (Over x) = Unit {0}

  record_fits : (at : ℕ) (i : Item) → Record s at i → Fitting i
  record_fits at i (ended h) = tt
  record_fits at i (half_length x y) = tt
  record_fits at i (short_body x y) = tt
  record_fits at i (length_zero w x) = tt
  record_fits at i (unknown w x u) = tt
  record_fits at i (length_wrong n w x k e) = tt
  record_fits at i (event w k) = event_fits at _ _ k refl

  item_fits : (at : ℕ) (i : Item) → ItemGiven s at i → Fitting i
  item_fits at i (bad_version h) = tt
  item_fits at i (first h j r) = record_fits 1 j r
  item_fits at i (later k j r) = record_fits (suc k) j r

  pub events_fit : (f at : ℕ) → AllFit (from f s at).events
  unfolding from
  events_fit zero at = none
  events_fit (suc f) at = go (events_fit f) (item_at s at) (item_fits at _ (item_given s at))
    where
      go : ((place : ℕ) → AllFit (from f s place).events) → (i : Item) → Fitting i → AllFit (on_item (from f s) i).events
      go rest (Got e place) h = next h (rest place)
      go rest (Over x) h = none

-- ---- The whole file

refused_not_good : (why : Fault) (p : ℕ) → Refused why p ≡ File → ⊥
refused_not_good why p e = let z : ◌≡◌ {A = ℕ} 0 1 = cc in omega arith

-- from a place that the walk comes to, up to a good end, the records are those of the events
records_written : (f : ℕ) (s : List ℕ) → ((i : ℕ) → byte_at s i < 256) → (at : ℕ) → Reached s at → length s < at + f
    → (from f s at).end ≡ File → records_of (from f s at).events ≡ drop at s
unfolding from records_of
records_written zero s b at r l = absurd (omega (arith, (reached_within s at r).1))
records_written (suc f) s b at r l =
    subst (λ (i : Item). (on_item (from f s) i).end ≡ File → records_of (on_item (from f s) i).events ≡ drop at s)
    (sym (reached_item s at r))
    (go (λ next q g. records_written f s b next q (omega arith)) (record_at s at) (given_one s at))
  where
    go : ((next : ℕ) → Reached s next → at + 3 ≤ next → (from f s next).end ≡ File → records_of (from f s next).events ≡ drop next s)
        → (i : Item) → Record s at i → (on_item (from f s) i).end ≡ File → records_of (on_item (from f s) i).events ≡ drop at s
    go rest i (ended h) z = sym (drop_of_length-le s {i = at} h)
    go rest i (half_length x y) z = absurd (refused_not_good _ at z)
    go rest i (short_body x y) z = absurd (refused_not_good _ at z)
    go rest i (length_zero w x) z = absurd (refused_not_good _ at z)
    go rest i (unknown w x u) z = absurd (refused_not_good _ at z)
    go rest i (length_wrong n w x k e) z = absurd (refused_not_good _ at z)
    go rest i (event w k) z =
        let place : at + (2 + word_at s at) ≡ at + 2 + word_at s at = omega arith in
        (λ i. bytes_of (event_at s (at + 2)) ++ rest (at + 2 + word_at s at) (passed at r w k) (omega (arith, known_some _ _ k)) z i)
        ∙ sym (drop_part s (2 + word_at s at) at (omega (arith, w)) ∙ (λ i. record_bytes s b at _ _ k refl refl i ++ drop (place i) s))

behind_version : (s : List ℕ) → byte_at s 0 ≡ 1 → 1 ∷ drop 1 s ≡ s
behind_version [] h = absurd (omega (arith, h))
behind_version (x ∷ xs) h = λ i. sym h i ∷ xs

pub file_written : File-written
unfolding file_of
file_written s b z = go (eqb (byte_at s 0) 1) refl
  where
    go : (t : Bool) → eqb (byte_at s 0) 1 ≡ t → file_of (session s).events ≡ s
    go true e =
        let h = eqb-true (byte_at s 0) 1 e in
        let q = session_opened s h in
        let w = records_written (suc (length s)) s b 1 (opened h) (omega arith) (ap (λ (x : Session). x.end) (sym q) ∙ z) in
        (λ i. 1 ∷ records_of (q i).events) ∙ (λ i. 1 ∷ w i) ∙ behind_version s h
    go false e = absurd (refused_not_good Version 0 (sym (version_ends s (eqb-false (byte_at s 0) 1 e)) ∙ z))
