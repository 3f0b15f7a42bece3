-- A call of the writer is refused by a number, or not refused, exactly when 02 says so (specs/WritingLaws, Write-exactly).
use Prim.Native.Nat.{ℕ, zero, suc, ◌+◌, ◌*◌, ◌/◌, ◌%◌, ◌≤◌, ◌<◌}
use mathlib.Core.Path.{◌≡◌, refl, sym, ap, subst, ◌∙◌}
use mathlib.Core.Logic.{◌≢◌}
use mathlib.Core.Bool.{Bool, true, false, not}
use mathlib.Core.List.{List, [], ◌∷◌, ◌++◌, map, append_assoc, append-nil}
use native.Mathlib.Omega.{arith}
use borrow.Author.Tests.{lt-ltb, le-ltb, ltb-true, ltb-false, eq-eqb, ne_eqb, eqb-true, eqb-false}
use lib.Dec.{ltb, eqb}
use lib.ListN.{length, take, drop, length-append, length-drop, take-append-drop}
use lib.Seq.{take_at, drop_at, length-take-le}
use Rattle.rules.proofs.Choice.{cases, cond_true, cond_false}
use Rattle.rules.specs.Refusals.{◌when◌, first_of}
use Rattle.rules.specs.declared.Event.{Event}
use Rattle.rules.specs.declared.Event.TheVariants.{PowerUp as power_up, Write as write, Read as read, Signal as signal}
use Rattle.file_rules.specs.Row.{row_of, event_of_row}
use Rattle.file_rules.specs.Bytes.{file_of, Fits, AllFit, none, next}
use Rattle.file_rules.specs.Writing.{sixes, rows_in, events_in, rows_of, row_refusal, first_bad, write_refusal}
use Rattle.file_rules.specs.WritingLaws.{BadRow, unknown_kind, misfit, RowGiven, bad, good}
use Rattle.file_rules.specs.WritingLaws.{WriteGiven, not_whole, bad_event, past_end, too_long, done, Write-exactly}
use Rattle.file_rules.proofs.Written.{row_read}
use Rattle.file_rules.proofs.RowsGiven.{good_row, row_given, bad_given}

-- ---- Six numbers at a time

row_long_lem : (e : Event) → length (row_of e) ≡ 6
row_long_lem (power_up x) = refl
row_long_lem (write o v) = refl
row_long_lem (read o) = refl
row_long_lem (signal x) = refl

rows_long : (es : List Event) → length (rows_of es) ≡ 6 * length es
unfolding rows_of
rows_long [] = refl
rows_long (e ∷ es) = omega (arith, length-append (row_of e) (rows_of es), row_long_lem e, rows_long es)

sixes_cons : (n : ℕ) (r ys : List ℕ) → length r ≡ 6 → sixes (suc n) (r ++ ys) ≡ r ∷ sixes n ys
unfolding sixes
sixes_cons n r ys l = λ i. take_at r ys 6 l i ∷ sixes n (drop_at r ys 6 l i)

bad_some : (r : List ℕ) (m : ℕ) → BadRow r m → m ≢ 0
bad_some r m (unknown_kind u) = λ z. absurd (omega arith)
bad_some r m (misfit k h never) = λ z. absurd (omega arith)

-- a good row is passed over, and one that is not decides
pub first_good : (r : List ℕ) (rs : List (List ℕ)) → row_refusal r ≡ 0 → first_bad (r ∷ rs) ≡ first_bad rs
unfolding first_bad
first_good r rs z = cond_true _ _ _ (eq-eqb _ 0 z)

pub first_refused : (r : List ℕ) (rs : List (List ℕ)) → row_refusal r ≢ 0 → first_bad (r ∷ rs) ≡ row_refusal r
unfolding first_bad
first_refused r rs n = cond_false _ _ _ (ne_eqb _ 0 n)

first_bad_lem : (r : List ℕ) (rs : List (List ℕ)) (m : ℕ) → length r ≡ 6 → BadRow r m → first_bad (r ∷ rs) ≡ m
first_bad_lem r rs m l b =
    let e = bad_given r m l b in
    first_refused r rs (λ z. bad_some r m b (sym e ∙ z)) ∙ e

-- ---- The rows up to the first bad one

data Rows (xs : List ℕ) : ℕ → Type 0 where
  all_good : (es : List Event) → AllFit es → xs ≡ rows_of es → Rows xs 0
  one_bad : (es : List Event) (r ys : List ℕ) (k m : ℕ)
      → AllFit es → length r ≡ 6 → BadRow r m → length ys ≡ 6 * k → xs ≡ rows_of es ++ (r ++ ys)
      → Rows xs m

-- before them one more that is good
rows_next : (e : Event) → Fits e → (ys : List ℕ) (m : ℕ) → Rows ys m → Rows (row_of e ++ ys) m
unfolding rows_of
rows_next e f ys m (all_good es h q) = all_good (e ∷ es) (next f h) (ap (λ (l : List ℕ). row_of e ++ l) q)
rows_next e f ys m (one_bad es r zs k n h l b j q) =
    one_bad (e ∷ es) r zs k n (next f h) l b j (ap (λ (x : List ℕ). row_of e ++ x) q ∙ sym (append_assoc (row_of e) (rows_of es) (r ++ zs)))

rows_given : (n : ℕ) (xs : List ℕ) → length xs ≡ 6 * n → Rows xs (first_bad (sixes n xs))
unfolding sixes first_bad rows_of
rows_given zero [] l = all_good [] none refl
rows_given zero (x ∷ xs) l = absurd (omega arith)
rows_given (suc n) xs l =
    let r : List ℕ = take 6 xs in
    let ys : List ℕ = drop 6 xs in
    let long : length r ≡ 6 = length-take-le 6 xs (omega arith) in
    let rest : length ys ≡ 6 * n = omega (arith, length-drop 6 xs) in
    subst (λ (zs : List ℕ). Rows zs (first_bad (r ∷ sixes n ys))) (take-append-drop 6 xs)
    (go r ys long rest (row_refusal r) refl (row_given r long) (rows_given n ys rest))
  where
    go : (r ys : List ℕ) → length r ≡ 6 → length ys ≡ 6 * n → (m : ℕ) → row_refusal r ≡ m → RowGiven r m
        → Rows ys (first_bad (sixes n ys))
        → Rows (r ++ ys) (first_bad (r ∷ sixes n ys))
    go r ys long rest m q (bad b) rs =
        subst (Rows (r ++ ys)) (sym (first_bad_lem r (sixes n ys) m long b)) (one_bad [] r ys n m none long b rest refl)
    go r ys long rest m q (good e f p) rs =
        subst (Rows (r ++ ys)) (sym (first_good r (sixes n ys) q))
        (subst (λ (x : List ℕ). Rows (x ++ ys) (first_bad (sixes n ys))) (sym p) (rows_next e f ys _ rs))

-- behind rows that are good the rest decides
behind_good : (es : List Event) → AllFit es → (ys : List ℕ) (n k : ℕ) → n ≡ length es + k
    → first_bad (sixes n (rows_of es ++ ys)) ≡ first_bad (sixes k ys)
unfolding rows_of first_bad
behind_good [] none ys n k q = let p : n ≡ k = omega (arith, q) in ap (λ (j : ℕ). first_bad (sixes j ys)) p
behind_good (e ∷ es) (next f h) ys zero k q = absurd (omega (arith, q))
behind_good (e ∷ es) (next f h) ys (suc n) k q =
    ap (λ (x : List ℕ). first_bad (sixes (suc n) x)) (append_assoc (row_of e) (rows_of es) ys)
    ∙ ap first_bad (sixes_cons n (row_of e) (rows_of es ++ ys) (row_long_lem e))
    ∙ first_good (row_of e) (sixes n (rows_of es ++ ys)) (good_row e f)
    ∙ behind_good es h ys n k (omega (arith, q))

events_of : (es : List Event) (n : ℕ) → n ≡ length es → map event_of_row (sixes n (rows_of es)) ≡ es
unfolding rows_of sixes
events_of [] zero q = refl
events_of [] (suc n) q = absurd (omega (arith, q))
events_of (e ∷ es) zero q = absurd (omega (arith, q))
events_of (e ∷ es) (suc n) q =
    ap (map event_of_row) (sixes_cons n (row_of e) (rows_of es) (row_long_lem e))
    ∙ (λ i. row_read e i ∷ events_of es n (omega (arith, q)) i)

-- ---- Slices that are rows of events

module _ (es : List Event) where
  count : length (rows_of es) / 6 ≡ length es
  count = omega (arith, rows_long es)

  pub rows_events : events_in (rows_of es) ≡ es
  unfolding events_in
  rows_events = events_of es (length (rows_of es) / 6) count

  good_none : AllFit es → first_bad (rows_in (rows_of es)) ≡ 0
  unfolding first_bad sixes
  good_none h =
      ap (λ (x : List ℕ). first_bad (sixes (length (rows_of es) / 6) x)) (sym (append-nil (rows_of es)))
      ∙ behind_good es h [] (length (rows_of es) / 6) 0 (omega (arith, count))

-- by the first bad row of a slice of whole ones, and by place and length
unfoldable pub decided : ℕ → ℕ → ℕ → ℕ → ℕ
decided m n place long = first_of (m when not (eqb m 0) ∷ 20 when ltb n place ∷ 21 when ltb n (place + long) ∷ [])

pub whole_decided : (xs : List ℕ) (n place : ℕ) → length xs % 6 ≡ 0
    → write_refusal xs n place ≡ decided (first_bad (rows_in xs)) n place (length (file_of (events_in xs)))
unfolding write_refusal first_of decided
whole_decided xs n place h = cond_false _ _ _ (ap not (eq-eqb (length xs % 6) 0 h))

pub part_refused : (xs : List ℕ) (n place : ℕ) → length xs % 6 ≢ 0 → write_refusal xs n place ≡ 32
unfolding write_refusal first_of
part_refused xs n place h = cond_true _ _ _ (ap not (ne_eqb (length xs % 6) 0 h))

pub bad_decided : (m n place long : ℕ) → m ≢ 0 → decided m n place long ≡ m
unfolding decided first_of
bad_decided m n place long h = cond_true _ _ _ (ap not (ne_eqb m 0 h))

pub past_decided : (n place long : ℕ) → n < place → decided 0 n place long ≡ 20
unfolding decided first_of
past_decided n place long l = cond_true _ _ _ (lt-ltb n place l)

pub short_decided : (n place long : ℕ) → place ≤ n → n < place + long → decided 0 n place long ≡ 21
unfolding decided first_of
short_decided n place long l k = cond_false _ _ _ (le-ltb n place l) ∙ cond_true _ _ _ (lt-ltb _ _ k)

pub room_decided : (n place long : ℕ) → place + long ≤ n → decided 0 n place long ≡ 0
unfolding decided first_of
room_decided n place long k = cond_false _ _ _ (le-ltb n place (omega arith)) ∙ cond_false _ _ _ (le-ltb _ _ k)

good_decided : (es : List Event) → AllFit es → (n place : ℕ) → write_refusal (rows_of es) n place ≡ decided 0 n place (length (file_of es))
good_decided es h n place =
    whole_decided (rows_of es) n place (omega (arith, rows_long es))
    ∙ (λ i. decided (good_none es h i) n place (length (file_of (rows_events es i))))

-- ---- One of the lines is always given

good_given : (xs : List ℕ) (n place : ℕ) (es : List Event) → AllFit es → xs ≡ rows_of es
    → WriteGiven xs n place (decided 0 n place (length (file_of es)))
unfolding decided first_of
good_given xs n place es h q =
    cases (WriteGiven xs n place) (ltb n place) (λ t. past_end es h q (ltb-true n place t)) (λ u.
    cases (WriteGiven xs n place) (ltb n (place + length (file_of es)))
    (λ t. too_long es h q (ltb-false n place u) (ltb-true _ _ t))
    (λ t. done es h q (ltb-false _ _ t)))

rows_decided : (xs : List ℕ) (n place m : ℕ) → Rows xs m → WriteGiven xs n place (decided m n place (length (file_of (events_in xs))))
rows_decided xs n place m (all_good es h q) =
    subst (λ (x : List Event). WriteGiven xs n place (decided 0 n place (length (file_of x)))) (sym (rows_events es) ∙ ap events_in (sym q))
    (good_given xs n place es h q)
rows_decided xs n place m (one_bad es r ys k j h l b y q) =
    subst (WriteGiven xs n place) (sym (bad_decided m n place _ (bad_some r m b))) (bad_event es r ys k m h l b y q)

write_given : (xs : List ℕ) (n place : ℕ) → WriteGiven xs n place (write_refusal xs n place)
write_given xs n place = go (eqb (length xs % 6) 0) refl
  where
    go : (t : Bool) → eqb (length xs % 6) 0 ≡ t → WriteGiven xs n place (write_refusal xs n place)
    go true e =
        let whole : length xs ≡ 6 * (length xs / 6) = omega (arith, eqb-true (length xs % 6) 0 e) in
        subst (WriteGiven xs n place) (sym (whole_decided xs n place (eqb-true (length xs % 6) 0 e)))
        (rows_decided xs n place _ (rows_given _ xs whole))
    go false e =
        subst (WriteGiven xs n place) (sym (part_refused xs n place (eqb-false (length xs % 6) 0 e)))
        (not_whole (λ k h. eqb-false (length xs % 6) 0 e (omega (arith, h))))

-- ---- And no other

given_write : (xs : List ℕ) (n place m : ℕ) → WriteGiven xs n place m → write_refusal xs n place ≡ m
given_write xs n place m (not_whole u) = part_refused xs n place (λ z. u (length xs / 6) (omega (arith, z)))
given_write xs n place m (bad_event es r ys k j h l b y q) =
    let more : length (r ++ ys) ≡ 6 * suc k = omega (arith, length-append r ys) in
    let whole : length xs ≡ 6 * (length es + suc k) = omega (arith, ap length q, length-append (rows_of es) (r ++ ys), rows_long es) in
    let rows : length xs / 6 ≡ length es + suc k = omega (arith, whole) in
    let first : first_bad (rows_in xs) ≡ m =
    (λ i. first_bad (sixes (rows i) (q i))) ∙ behind_good es h (r ++ ys) (length es + suc k) (suc k) refl
    ∙ ap first_bad (sixes_cons k r ys l) ∙ first_bad_lem r (sixes k ys) m l b in
    whole_decided xs n place (omega (arith, whole))
    ∙ ap (λ (x : ℕ). decided x n place (length (file_of (events_in xs)))) first
    ∙ bad_decided m n place _ (bad_some r m b)
given_write xs n place m (past_end es h q l) =
    ap (λ (x : List ℕ). write_refusal x n place) q ∙ good_decided es h n place ∙ past_decided n place _ l
given_write xs n place m (too_long es h q l k) =
    ap (λ (x : List ℕ). write_refusal x n place) q ∙ good_decided es h n place ∙ short_decided n place _ l k
given_write xs n place m (done es h q k) =
    ap (λ (x : List ℕ). write_refusal x n place) q ∙ good_decided es h n place ∙ room_decided n place _ k

pub write_exactly : Write-exactly
write_exactly xs n place m = (λ q. subst (WriteGiven xs n place) q (write_given xs n place), given_write xs n place m)

-- ---- A call that is not refused

pub record Unrefused (xs : List ℕ) (n place : ℕ) : Type 0 where
  pub es : List Event
  pub fits : AllFit es
  pub events : events_in xs ≡ es
  pub whole : length xs % 6 ≡ 0
  pub none_bad : first_bad (rows_in xs) ≡ 0
  pub room : place + length (file_of (events_in xs)) ≤ n

pub good_call : (xs : List ℕ) (n place : ℕ) → write_refusal xs n place ≡ 0 → Unrefused xs n place
good_call xs n place z = go 0 refl ((write_exactly xs n place 0).0 z)
  where
    go : (m : ℕ) → m ≡ 0 → WriteGiven xs n place m → Unrefused xs n place
    go m q (not_whole u) = absurd (omega (arith, q))
    go m q (bad_event es r ys k j h l b y p) = absurd (bad_some r m b q)
    go m q (past_end es h p l) = absurd (omega (arith, q))
    go m q (too_long es h p l k) = absurd (omega (arith, q))
    go m q (done es h p k) =
        let e : events_in xs ≡ es = ap events_in p ∙ rows_events es in
        record {
          es = es;
          fits = h;
          events = e;
          whole = omega (arith, ap length p, rows_long es);
          none_bad = ap (λ (x : List ℕ). first_bad (rows_in x)) p ∙ good_none es h;
          room = subst (λ (x : List Event). place + length (file_of x) ≤ n) (sym e) k;
        }
