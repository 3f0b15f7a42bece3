-- The table of what counted, when one more record counts: the first after an accepted power-up, or a later one.
use Prim.Native.Nat.{ℕ, ◌<◌}
use mathlib.Core.Path.{◌≡◌, refl, sym, ap, ◌∙◌, subst}
use mathlib.Core.Bool.{Bool, true, false, true≢false, false≢true}
use mathlib.Core.List.{List, [], ◌∷◌}
use lib.ListN.{length, get_or}
use lib.Seq.{ext_get_or}
use lib.Dec.{eqb}
use lib.Ieee.{Float}
use Rattle.std.specs.Prelude.{Option, Some, None, is_some, Result, Ok, Err}
use Rattle.std.specs.Result.{is_ok}
use Rattle.rules.specs.declared.Board.{Board}
use Rattle.rules.specs.declared.Done.{Done}
use Rattle.rules.specs.declared.Refusal.{Refusal}
use Rattle.rules.specs.Numbered.{answer_of}
use Rattle.rules.proofs.Numbered.{not_done}
use Rattle.volt_rules.specs.declared.Extremes.{Extremes}
use Rattle.volt_rules.specs.Volts.{volts_of}
use Rattle.volt_rules.specs.Counting.{Counted, freshly, also}
use Rattle.volt_rules.specs.Extremes.{picked, last_of}
use Rattle.volt_rules.specs.Table.{channel, channels_of}
use Rattle.volt_rules.proofs.Tables.{twenty_long, channel_at}
use Rattle.volts.specs.Watching.{no_channel, at_once, entered, AllStarted, AllEntered, seen_of, watched, SameRange}

abbrev what : ℕ → List (List ℕ) → Counted
what r xs = record { range = r; levels = xs }

-- twenty channels that are those of w, each by itself
each_channel : (w : Counted) (r : List Extremes) → length r ≡ 20 → ((k : ℕ) → k < 20 → get_or r k no_channel ≡ channel w k) → r ≡ channels_of w
each_channel w r l h =
    ext_get_or no_channel r (channels_of w) (l ∙ sym (twenty_long w))
    (λ k b. let b' = subst (λ (n : ℕ). k < n) l b in h k b' ∙ sym (channel_at w k no_channel b'))

first_of : (b : Board) (k : ℕ) → at_once (volts_of b.core.options.range (get_or b.core.outputs.levels k 0)) ≡ channel (freshly b) k
unfolding channel picked last_of
first_of b k = refl

one_more : (r : ℕ) (levels x : List ℕ) (xs : List (List ℕ)) (k : ℕ)
    → entered (channel (what r (x ∷ xs)) k) (volts_of r (get_or levels k 0)) ≡ channel (what r (levels ∷ x ∷ xs)) k
unfolding channel picked last_of
one_more r levels x xs k = refl

pub watched_first : (fresh : Bool) (b : Board) (w : Counted) (r : List Extremes) → fresh ≡ true
    → AllStarted b.core.options.range b.core.outputs.levels r
    → Some r ≡ seen_of (watched fresh b w)
watched_first true b w r h a = ap Some (each_channel (freshly b) r a.twenty (λ k l. a.each k l ∙ first_of b k))
watched_first false b w r h a = absurd (false≢true h)

-- before the first accepted power-up
pub watched_none : (fresh : Bool) (b : Board) (w : Counted) → fresh ≡ false → None ≡ seen_of w → None ≡ seen_of (watched fresh b w)
unfolding also
watched_none fresh b w = go fresh w.levels
  where
    go : (t : Bool) (xs : List (List ℕ)) → t ≡ false → None ≡ seen_of (what w.range xs) → None ≡ seen_of (watched t b (what w.range xs))
    go true xs h e = absurd (true≢false h)
    go false [] h e = refl
    go false (x ∷ xs) h e = absurd (false≢true (ap is_some e))

table_in : List Extremes → Option (List Extremes) → List Extremes
table_in d None = d
table_in d (Some ts) = ts

pub watched_more : (fresh : Bool) (b : Board) (w : Counted) (ts r : List Extremes) → fresh ≡ false → Some ts ≡ seen_of w → SameRange w b
    → AllEntered ts b.core.options.range b.core.outputs.levels r
    → Some r ≡ seen_of (watched fresh b w)
unfolding also table_in
watched_more fresh b w ts r h e same a = go fresh w.levels h e same
  where
    levels : List ℕ
    levels = b.core.outputs.levels

    go : (t : Bool) (xs : List (List ℕ)) → t ≡ false → Some ts ≡ seen_of (what w.range xs) → SameRange (what w.range xs) b → Some r ≡ seen_of (watched t b (what w.range xs))
    go true xs h e same = absurd (true≢false h)
    go false [] h e same = absurd (true≢false (ap is_some e))
    go false (x ∷ xs) h e same =
        let now = what w.range (x ∷ xs) in
        let in_range : ℕ → ℕ → Float = λ q k. volts_of q (get_or levels k 0) in
        ap Some (each_channel (what w.range (levels ∷ x ∷ xs)) r a.twenty (λ k l.
        a.each k l
        ∙ ap (λ (us : List Extremes). entered (get_or us k no_channel) (in_range b.core.options.range k)) (ap (table_in ts) e)
        ∙ (λ i. entered (channel_at now k no_channel l i) (in_range (same refl i) k))
        ∙ one_more w.range levels x xs k))

-- ---- What starts it afresh

-- no refusal has the number 0
pub accepted : (a : Result Done Refusal) → is_ok a ≡ eqb (answer_of a).refusal 0
accepted (Ok d) = refl
accepted (Err why) = sym (not_done why)
