-- What is written is read: the record of an event, a file of events, the row of an event.
use Prim.Native.Nat.{ℕ, zero, suc, ◌+◌, ◌*◌, ◌/◌, ◌%◌, ◌^◌, ◌≤◌, ◌<◌}
use mathlib.Core.Path.{◌≡◌, refl, sym, ap, subst, ◌∙◌}
use mathlib.Core.List.{List, [], ◌∷◌, ◌++◌, append_assoc, append-nil}
use native.Mathlib.Nat.{add-zero}
use native.Mathlib.Omega.{arith}
use lib.ListN.{length, length-append}
use lib.Seq.{get_or-append-add}
use Rattle.rules.specs.declared.Event.{Event}
use Rattle.rules.specs.declared.Event.TheVariants.{PowerUp as power_up, Write as write, Read as read, Signal as signal}
use Rattle.rules.specs.declared.Signal.TheVariants.{Tick as tick, Outside as outside, Trigger as trigger}
use Rattle.rules.specs.declared.Signal.TheVariants.{Passed as passed, Failed as failed, Settled as settled}
use Rattle.file_rules.specs.Item.{End}
use Rattle.file_rules.specs.Item.{File, Refused}
use Rattle.file_rules.specs.Item.{Got, Over}
use Rattle.file_rules.specs.File.{byte_at, word_at, signal_of, event_of, event_at, item_at, on_item, from, session}
use Rattle.file_rules.specs.Bytes.{kind_of, fields_of, bytes_of, records_of, file_of, Fits, AllFit, none, next}
use Rattle.file_rules.specs.Laws.{Known, ended, event, Bytes-read, File-read, Refused-events, Row-read}
use Rattle.file_rules.specs.Laws.{power_up as known_power_up, write as known_write, read as known_read, signal as known_signal}
use Rattle.file_rules.proofs.Given.{record_given, item_later}

-- ---- Behind other bytes

module _ (xs zs : List ℕ) where
  byte_behind : (p i : ℕ) → p ≡ length xs + i → byte_at (xs ++ zs) p ≡ byte_at zs i
  byte_behind p i e = ap (byte_at (xs ++ zs)) e ∙ get_or-append-add xs zs i 0

  word_behind : (p i : ℕ) → p ≡ length xs + i → word_at (xs ++ zs) p ≡ word_at zs i
  word_behind p i e = λ j. 256 * byte_behind p i e j + byte_behind (p + 1) (i + 1) (omega arith) j

  event_behind : (p i : ℕ) → p ≡ length xs + i → event_at (xs ++ zs) p ≡ event_at zs i
  unfolding event_at
  event_behind p i e =
      let b : (k : ℕ) → byte_at (xs ++ zs) (p + k) ≡ byte_at zs (i + k) = λ k. byte_behind (p + k) (i + k) (omega arith) in
      λ j.
      event_of (byte_behind p i e j) (b 1 j)
      (65536 * word_behind (p + 2) (i + 2) (omega arith) j + word_behind (p + 2 + 2) (i + 2 + 2) (omega arith) j)
      (record {
        fitted = b 1 j;
        range = byte_behind (p + 1 + 1) (i + 1 + 1) (omega arith) j;
        filter = byte_behind (p + 1 + 2) (i + 1 + 2) (omega arith) j;
        kit = byte_behind (p + 1 + 3) (i + 1 + 3) (omega arith) j;
        firmware = word_behind (p + 1 + 4) (i + 1 + 4) (omega arith) j;
      })

-- ---- An event read from its own record

-- its kind is known, and its length is that kind's
pub known : (e : Event) → Known (kind_of e) (length (kind_of e ∷ fields_of e))
known (power_up x) = known_power_up
known (write o v) = known_write
known (read o) = known_read
known (signal tick) = known_signal 4 (omega arith) (omega arith)
known (signal outside) = known_signal 5 (omega arith) (omega arith)
known (signal trigger) = known_signal 6 (omega arith) (omega arith)
known (signal passed) = known_signal 7 (omega arith) (omega arith)
known (signal failed) = known_signal 8 (omega arith) (omega arith)
known (signal settled) = known_signal 9 (omega arith) (omega arith)

two_read : (n : ℕ) → n < 65536 → 256 * (n / 256 % 256) + n % 256 ≡ n
two_read n h = omega arith

four_read : (v : ℕ) → v < 2 ^ 32
    → 65536 * (256 * (v / 65536 / 256 % 256) + v / 65536 % 256) + (256 * (v % 65536 / 256 % 256) + v % 65536 % 256) ≡ v
four_read v h = (λ i. 65536 * two_read (v / 65536) (omega arith) i + two_read (v % 65536) (omega arith) i) ∙ omega arith

own_event : (e : Event) (ys : List ℕ) → Fits e → event_at (bytes_of e ++ ys) 2 ≡ e
unfolding event_at event_of signal_of
own_event (power_up x) ys h =
    λ i. power_up (record { fitted = x.fitted; range = x.range; filter = x.filter; kit = x.kit; firmware = two_read x.firmware h.4 i })
own_event (write o v) ys h = ap (write o) (four_read v h.1)
own_event (read o) ys h = refl
own_event (signal tick) ys h = refl
own_event (signal outside) ys h = refl
own_event (signal trigger) ys h = refl
own_event (signal passed) ys h = refl
own_event (signal failed) ys h = refl
own_event (signal settled) ys h = refl

own_length : (e : Event) (ys : List ℕ) → word_at (bytes_of e ++ ys) 0 ≡ length (kind_of e ∷ fields_of e)
own_length (power_up x) ys = refl
own_length (write o v) ys = refl
own_length (read o) ys = refl
own_length (signal x) ys = refl

pub bytes_read : Bytes-read
bytes_read xs ys e h l =
    let zs : List ℕ = bytes_of e ++ ys in
    let s : List ℕ = xs ++ zs in
    let at : ℕ = length xs in
    let word : word_at s at ≡ length (kind_of e ∷ fields_of e) = word_behind xs zs at 0 (omega arith) ∙ own_length e ys in
    let kind : byte_at s (at + 2) ≡ kind_of e = byte_behind xs zs (at + 2) 2 refl in
    let long : length s ≡ at + length (bytes_of e) + length ys = length-append xs zs ∙ ap (λ (n : ℕ). at + n) (length-append (bytes_of e) ys) ∙ omega arith in
    let whole : at + 2 + word_at s at ≤ length s = omega (arith, word, long) in
    let given : Known (byte_at s (at + 2)) (word_at s at) = subst (λ (n : ℕ). Known n (word_at s at)) (sym kind) (subst (Known (kind_of e)) (sym word) (known e)) in
    let next : at + 2 + word_at s at ≡ at + length (bytes_of e) = omega (arith, word) in
    item_later s at (λ z. omega (arith, z, l))
    ∙ record_given s at _ (event whole given)
    ∙ (λ i. Got ((event_behind xs zs (at + 2) 2 refl ∙ own_event e ys h) i) (next i))

-- ---- A file of events

-- behind the bytes of the events before, the walk comes to these events, and to the end that the file has behind them
records_read : (es : List Event) → AllFit es → (xs ys : List ℕ) → 0 < length xs → (f : ℕ) → length (records_of es) < f → (x : End)
    → item_at (xs ++ (records_of es ++ ys)) (length xs + length (records_of es)) ≡ Over x
    → from f (xs ++ (records_of es ++ ys)) (length xs) ≡ record { events = es; end = x }
unfolding records_of from
records_read es h xs ys l zero k x o = absurd (omega arith)
records_read [] none xs ys l (suc f) k x o = ap (on_item (from f (xs ++ ys))) (ap (item_at (xs ++ ys)) (sym (add-zero (length xs))) ∙ o)
records_read (e ∷ es) (next h hs) xs ys l (suc f) k x o =
    let long : length (xs ++ bytes_of e) ≡ length xs + length (bytes_of e) = length-append xs (bytes_of e) in
    let all : length (bytes_of e ++ records_of es) ≡ length (bytes_of e) + length (records_of es) = length-append (bytes_of e) (records_of es) in
    let s : List ℕ = xs ++ (bytes_of e ++ records_of es ++ ys) in
    let same : (xs ++ bytes_of e) ++ (records_of es ++ ys) ≡ s =
    append_assoc xs (bytes_of e) (records_of es ++ ys) ∙ ap (λ (z : List ℕ). xs ++ z) (sym (append_assoc (bytes_of e) (records_of es) ys)) in
    let place : length (xs ++ bytes_of e) + length (records_of es) ≡ length xs + length (bytes_of e ++ records_of es) = omega (arith, long, all) in
    let later : item_at ((xs ++ bytes_of e) ++ (records_of es ++ ys)) (length (xs ++ bytes_of e) + length (records_of es)) ≡ Over x =
    (λ i. item_at (same i) (place i)) ∙ o in
    let rest : from f ((xs ++ bytes_of e) ++ (records_of es ++ ys)) (length (xs ++ bytes_of e)) ≡ record { events = es; end = x } =
    records_read es hs (xs ++ bytes_of e) ys (omega (arith, long)) f (omega (arith, all)) x later in
    let there : from f s (length xs + length (bytes_of e)) ≡ record { events = es; end = x } = sym (λ i. from f (same i) (long i)) ∙ rest in
    ap (λ (z : List ℕ). on_item (from f s) (item_at (xs ++ z) (length xs))) (append_assoc (bytes_of e) (records_of es) ys)
    ∙ ap (on_item (from f s)) (bytes_read xs (records_of es ++ ys) e h l)
    ∙ (λ i. record { events = e ∷ (there i).events; end = (there i).end })

-- a file of events, and how it ends behind them
file_ends : (es : List Event) (ys : List ℕ) (x : End) → AllFit es
    → item_at (file_of es ++ ys) (length (file_of es)) ≡ Over x
    → session (file_of es ++ ys) ≡ record { events = es; end = x }
unfolding session file_of from item_at
file_ends es ys x h o =
    let place : 1 + length (records_of es) ≡ suc (length (records_of es)) = omega arith in
    records_read es h (1 ∷ []) ys (omega arith) (suc (suc (length (records_of es ++ ys)))) (omega (arith, length-append (records_of es) ys)) x
    (ap (item_at (1 ∷ (records_of es ++ ys))) place ∙ o)

pub file_read : File-read
unfolding file_of
file_read es h =
    let s : List ℕ = file_of es ++ [] in
    let at : ℕ = length (file_of es) in
    let over : length s ≤ at = omega (arith, length-append (file_of es) []) in
    ap session (sym (append-nil (file_of es)))
    ∙ file_ends es [] File h (item_later s at (λ z. omega (arith, z)) ∙ record_given s at _ (ended over))

pub refused_events : Refused-events
refused_events es ys why p h o = file_ends es ys (Refused why p) h o

-- ---- Rows

pub row_read : Row-read
unfolding event_of signal_of
row_read (power_up x) = refl
row_read (write o v) = refl
row_read (read o) = refl
row_read (signal tick) = refl
row_read (signal outside) = refl
row_read (signal trigger) = refl
row_read (signal passed) = refl
row_read (signal failed) = refl
row_read (signal settled) = refl
