-- The laws of a session's table.
use Prim.Native.Nat.{ℕ, zero, suc, ◌+◌, ◌<◌}
use mathlib.Core.Path.{◌≡◌, refl, sym, ap, ◌∙◌, subst}
use mathlib.Core.Logic.{◌⊎◌, inl, inr}
use mathlib.Core.Bool.{Bool, true, false, cond}
use mathlib.Core.List.{List, [], ◌∷◌, map}
use native.Mathlib.Nat.{not-suc-le-zero, add-zero, zero-add, add-suc, suc-add}
use native.Mathlib.Omega.{arith}
use borrow.Author.Tests.{ne_eqb}
use lib.Dec.{eqb, eqb-suc-zero}
use lib.ListN.{length, get_or, replicate, get_or-replicate}
use lib.Ieee.{Float, eq}
use Rattle.laws.specs.Types.{Event}
use Rattle.rules.specs.Record.{State, start}
use Rattle.rules.specs.Step.{step}
use Rattle.rules.proofs.Choice.{cases, either, cond_false}
use Rattle.file_rules.specs.declared.Fault.{Fault}
use Rattle.file_rules.specs.declared.Fault.TheVariants.{Version, Cut, Length, Kind}
use Rattle.file_rules.specs.Item.{End}
use Rattle.file_rules.specs.Item.{File, Refused}
use Rattle.file_rules.specs.File.{session, verdict, fault_number}
use Rattle.volt_rules.specs.declared.Extremes.{Extremes}
use Rattle.volt_rules.specs.Volts.{volts_of, zero_volts}
use Rattle.volt_rules.specs.Counting.{Counted, nothing_counted, also, starts_afresh, count_event, counted}
use Rattle.volt_rules.specs.Extremes.{picked, last_of}
use Rattle.volt_rules.specs.Table.{volts_at, extremes_of, channel, channels_from, channels_of, counted_in, power_refusal, table_refusal, table_channels}
use Rattle.volt_rules.specs.Laws.{NoneAccepted, TableGiven, bad_file, no_power, done, Table-exactly, zeros, Table-refused, OneOf, Bounds, Table-bounds, Zero-positive}
use Rattle.volt_rules.proofs.Lists.{Each, each_parted, each_map}
use Rattle.volt_rules.proofs.Exact.{volts_height, midrange_zero, volts_zero}
use Rattle.volt_rules.proofs.Playing.{Sixteen, Holds, start_holds, event_holds, up_fresh, up_holds}
use Rattle.volt_rules.proofs.Counting.{Powered, Some, is_up, counts_none, powered_or_not, counted_some}
use Rattle.volt_rules.proofs.Bounds.{High, lowest_best, highest_best, bounds}

-- ---- Refusals

pub fault_some : (why : Fault) → eqb (fault_number why) 0 ≡ false
unfolding fault_number
fault_some Version = refl
fault_some Cut = refl
fault_some Length = refl
fault_some Kind = refl

at_end : (s m : List ℕ) (x : End) → (session s).end ≡ x
    → table_refusal s m ≡ cond (eqb (verdict x).number 0) (power_refusal (counted_in s m).levels) (verdict x).number
unfolding table_refusal
at_end s m x h = ap (λ (y : End). cond (eqb (verdict y).number 0) (power_refusal (counted_in s m).levels) (verdict y).number) h

pub file_refused : (s m : List ℕ) (why : Fault) (p : ℕ) → (session s).end ≡ Refused why p → table_refusal s m ≡ fault_number why
file_refused s m why p h = at_end s m (Refused why p) h ∙ rw (fault_some why)

pub file_ended : (s m : List ℕ) → (session s).end ≡ File → table_refusal s m ≡ power_refusal (counted_in s m).levels
file_ended s m h = at_end s m File h

given_is : (s m : List ℕ) (n : ℕ) → TableGiven s m n → table_refusal s m ≡ n
unfolding counted_in
given_is s m n (bad_file why p h) = file_refused s m why p h
given_is s m n (no_power h k) = file_ended s m h ∙ ap (λ (w : Counted). power_refusal w.levels) (counts_none (start m) (session s).events k)
given_is s m n (done before later x h e a) =
    let c = counted_some nothing_counted (start m) before later x a in
    file_ended s m h ∙ ap (λ (es : List Event). power_refusal (counted nothing_counted (start m) es).levels) e ∙ ap power_refusal c.2

some_given : (s m : List ℕ) → (n : ℕ) × TableGiven s m n
some_given s m = go (session s).end refl (powered_or_not (start m) (session s).events)
  where
    go : (x : End) → (session s).end ≡ x → NoneAccepted (start m) (session s).events ⊎ Powered (start m) (session s).events
        → (n : ℕ) × TableGiven s m n
    go (Refused why p) h r = (fault_number why, bad_file why p h)
    go File h (inl n) = (_, no_power h n)
    go File h (inr p) = (0, done p.before p.later p.settings h p.parted p.accepted)

pub table_exactly : Table-exactly
table_exactly s m n = (λ h. let g = some_given s m in subst (TableGiven s m) (sym (given_is s m g.0 g.1) ∙ h) g.1, given_is s m n)

-- the channels by the refusal
pub channels_by : (s m : List ℕ) (n : ℕ) → table_refusal s m ≡ n → table_channels s m ≡ channels_of (cond (eqb n 0) (counted_in s m) nothing_counted)
unfolding table_channels
channels_by s m n h = ap (λ (k : ℕ). channels_of (cond (eqb k 0) (counted_in s m) nothing_counted)) h

-- ---- Refused: zeros

none_zeros : (n k : ℕ) → channels_from n k nothing_counted ≡ replicate n zeros
unfolding channels_from channel picked last_of
none_zeros zero k = refl
none_zeros (suc n) k = ap (λ (xs : List Extremes). zeros ∷ xs) (none_zeros n (suc k))

pub table_refused : Table-refused
table_refused s m h =
    channels_by s m _ refl ∙ ap (λ (t : Bool). channels_of (cond t (counted_in s m) nothing_counted)) (ne_eqb _ 0 h) ∙ none_zeros 20 0

-- ---- Not refused: something counted, and the table is of that

power_some : (xs : List (List ℕ)) → power_refusal xs ≡ 0 → Some xs
power_some [] h = absurd (omega (arith, h))
power_some (x ∷ xs) h = (x, xs, refl)

pub accepted_some : (s m : List ℕ) → table_refusal s m ≡ 0 → Some (counted_in s m).levels
unfolding table_refusal
accepted_some s m = go (verdict (session s).end).number
  where
    go : (n : ℕ) → cond (eqb n 0) (power_refusal (counted_in s m).levels) n ≡ 0 → Some (counted_in s m).levels
    go zero h = power_some (counted_in s m).levels h
    go (suc n) h =
        let e : suc n ≡ 0 = sym (cond_false (eqb (suc n) 0) (power_refusal (counted_in s m).levels) (suc n) (eqb-suc-zero n)) ∙ h in
        absurd (omega (arith, e))

pub accepted_channels : (s m : List ℕ) → table_refusal s m ≡ 0 → table_channels s m ≡ channels_of (counted_in s m)
accepted_channels s m h = channels_by s m 0 h

-- the channel k is the one in place k; d is what stands past the end
from_at : (n k j : ℕ) (w : Counted) (d : Extremes) → j < n → get_or (channels_from n k w) j d ≡ channel w (k + j)
unfolding channels_from
from_at zero k j w d l = absurd (not-suc-le-zero l)
from_at (suc n) k zero w d l = ap (channel w) (sym (add-zero k))
from_at (suc n) k (suc j) w d l = from_at n (suc k) j w d (omega (arith, l)) ∙ ap (channel w) (suc-add k j ∙ sym (add-suc k j))

pub twenty_long : (w : Counted) → length (channels_of w) ≡ 20
unfolding channels_from
twenty_long w = refl

pub channel_at : (w : Counted) (k : ℕ) (d : Extremes) → k < 20 → get_or (channels_of w) k d ≡ channel w k
channel_at w k d l = from_at 20 0 k w d l ∙ ap (channel w) (zero-add k)

-- ---- Of what counted: levels of 16 bits, and midrange at its start

pub event_sixteen : (s : State) (e : Event) → (r : ℕ) × Holds r s.board.core → (r : ℕ) × Holds r (step s e).state.board.core
event_sixteen s e h = go (starts_afresh e (step s e)) refl
  where
    go : (t : Bool) → starts_afresh e (step s e) ≡ t → (r : ℕ) × Holds r (step s e).state.board.core
    go true f =
        let u = is_up s e f in
        (u.0.range, subst (λ (d : Event). Holds u.0.range (step s d).state.board.core) (sym u.1) (up_holds s u.0 u.2))
    go false f = (h.0, event_holds h.0 s e f h.1)

-- the earliest of them has all its channels at midrange
abbrev pub FromMidrange : List (List ℕ) → Type 0
FromMidrange [] = Unit {0}
FromMidrange (x ∷ []) = x ≡ replicate 20 0x8000
FromMidrange (x ∷ y ∷ ys) = FromMidrange (y ∷ ys)

pub record Sure (xs : List (List ℕ)) : Type 0 where
  pub sixteen : Each Sixteen xs
  pub started : FromMidrange xs

also_sure : (x : List ℕ) (xs : List (List ℕ)) → Sixteen x → Sure xs → Sure (also x xs)
unfolding also
also_sure x [] h k = k
also_sure x (y ∷ ys) h k = record { sixteen = (h, k.sixteen); started = k.started }

count_sure : (s : State) (e : Event) (w : Counted) → Sixteen (step s e).state.board.core.outputs.levels → Sure w.levels
    → Sure (count_event e (step s e) w).levels
unfolding count_event
count_sure s e w h k = cases (λ (v : Counted). Sure v.levels) (starts_afresh e (step s e)) up (λ _. also_sure _ w.levels h k)
  where
    up : starts_afresh e (step s e) ≡ true → Sure ((step s e).state.board.core.outputs.levels ∷ [])
    up f =
        let u = is_up s e f in
        record {
          sixteen = (h, tt);
          started = subst (λ (d : Event). (step s d).state.board.core.outputs.levels ≡ replicate 20 0x8000) (sym u.1) (up_fresh s u.0 u.2).1;
        }

counted_sure : (w : Counted) (s : State) (es : List Event) → (r : ℕ) × Holds r s.board.core → Sure w.levels → Sure (counted w s es).levels
unfolding counted
counted_sure w s [] h k = k
counted_sure w s (e ∷ es) h k =
    let h' = event_sixteen s e h in
    counted_sure (count_event e (step s e) w) (step s e).state es h' (count_sure s e w h'.1.1 k)

pub session_sure : (s m : List ℕ) → Sure (counted_in s m).levels
unfolding counted_in
session_sure s m = counted_sure nothing_counted (start m) (session s).events (0, start_holds) (record { sixteen = tt; started = tt })

-- ---- The volts of a channel

abbrev pub volts_in : ℕ → ℕ → List ℕ → Float
volts_in range k levels = volts_of range (get_or levels k 0)

pub volts_high : (range k : ℕ) (x : List ℕ) → Sixteen x → High (volts_in range k x)
volts_high range k x h = let v = volts_height range _ (h k) in (v.0, v.1)

zero_among : (range k : ℕ) → k < 20 → (x : List ℕ) (xs : List (List ℕ)) → FromMidrange (x ∷ xs) → OneOf zero_volts (map (volts_in range k) (x ∷ xs))
zero_among range k l x [] h =
    let e : get_or x k 0 ≡ 32768 = ap (λ (ls : List ℕ). get_or ls k 0) h ∙ get_or-replicate 20 k 0x8000 0 l in
    ([], [], ap (λ (v : Float). v ∷ []) (ap (volts_of range) e ∙ midrange_zero range))
zero_among range k l x (y ∷ ys) h =
    let r = zero_among range k l y ys h in
    (volts_in range k x ∷ r.0, r.1, ap (λ (vs : List Float). volts_in range k x ∷ vs) r.2)

pub table_bounds : Table-bounds
unfolding channel
table_bounds s m k l h =
    let w = counted_in s m in
    let c = accepted_some s m h in
    let sure = subst Sure c.2 (session_sure s m) in
    let e = ap (λ (xs : List Extremes). get_or xs k zeros) (accepted_channels s m h) ∙ channel_at w k zeros l in
    let volts = map (volts_in w.range k) in
    subst (λ (x : Extremes). Bounds (volts_at k w) x) (sym e)
    (subst (λ (xs : List (List ℕ)). Bounds (volts xs) (extremes_of (volts xs))) (sym c.2)
    (bounds _ _ (each_map Sixteen High (volts_in w.range k) (volts_high w.range k) (c.0 ∷ c.1) sure.sixteen) (zero_among w.range k l c.0 c.1 sure.started)))

-- ---- Zero

abbrev Plain : Float → Type 0
Plain x = eq x zero_volts ≡ true → x ≡ zero_volts

abbrev AllPlain : Extremes → Type 0
AllPlain x = Each Plain (x.lowest ∷ x.highest ∷ x.last ∷ [])

zeros_plain : AllPlain zeros
zeros_plain = (λ _. refl, (λ _. refl, (λ _. refl, tt)))

volts_plain : (range k : ℕ) (x : List ℕ) → Sixteen x → Plain (volts_in range k x)
volts_plain range k x h = volts_zero range _ (h k)

extremes_plain : (range k : ℕ) (xs : List (List ℕ)) → Each Sixteen xs → AllPlain (extremes_of (map (volts_in range k) xs))
unfolding picked last_of
extremes_plain range k [] h = zeros_plain
extremes_plain range k (x ∷ xs) h =
    let high = each_map Sixteen High (volts_in range k) (volts_high range k) (x ∷ xs) h in
    let plain = each_map Sixteen Plain (volts_in range k) (volts_plain range k) (x ∷ xs) h in
    let vs = map (volts_in range k) (x ∷ xs) in
    let low = (lowest_best _ _ high).reached in
    let top = (highest_best _ _ high).reached in
    (each_parted Plain vs low.0 low.1 _ low.2 plain, (each_parted Plain vs top.0 top.1 _ top.2 plain, (plain.0, tt)))

entries_plain : (n k j : ℕ) (w : Counted) → Each Sixteen w.levels → AllPlain (get_or (channels_from n k w) j zeros)
unfolding channels_from channel
entries_plain zero k j w h = zeros_plain
entries_plain (suc n) k zero w h = extremes_plain w.range k w.levels h
entries_plain (suc n) k (suc j) w h = entries_plain n (suc k) j w h

pub zero_positive : Zero-positive
unfolding table_channels
zero_positive s m k x o = each_parted Plain _ o.0 o.1 x o.2 (entries_plain 20 0 k _ sixteen)
  where
    sixteen : Each Sixteen (cond (eqb (table_refusal s m) 0) (counted_in s m) nothing_counted).levels
    sixteen = either (λ (w : Counted). Each Sixteen w.levels) (eqb (table_refusal s m) 0) (session_sure s m).sixteen tt
