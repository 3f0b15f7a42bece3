-- What is written is read, and what is shipped plays (specs/Laws, Cut-read; specs/Plays, Shipped-plays).
use Prim.Native.Nat.{ℕ, zero, suc, ◌+◌, ◌^◌, ◌<◌}
use mathlib.Core.Path.{◌≡◌, refl, sym, ap, subst, ◌∙◌}
use mathlib.Core.List.{List, [], ◌∷◌, ◌++◌, map, append_assoc}
use native.Mathlib.Omega.{arith}
use lib.ListN.{length, get_or, drop}
use lib.Seq.{slice, slice-cons, length-sets}
use Rattle.rules.specs.declared.Settings.{Settings}
use Rattle.rules.specs.declared.Event.{Event}
use Rattle.rules.specs.declared.Event.TheVariants.{PowerUp as power_up, Write as write}
use Rattle.rules.specs.Record.{State, value_span, start}
use Rattle.rules.specs.Refusals.{refusal}
use Rattle.rules.specs.Session.{outcomes, after}
use Rattle.rules.proofs.Steps.{refusal_answered}
use Rattle.rules.proofs.Refusals.{power_up_accepted}
use Rattle.laws.proofs.Loads.{fate_none}
use Rattle.file_rules.specs.Item.{File}
use Rattle.file_rules.specs.File.{Session, session}
use Rattle.file_rules.specs.Bytes.{bytes_of, records_of, file_of, Fits, AllFit, none, next}
use Rattle.file_rules.specs.WritingLaws.{Reread}
use Rattle.file_rules.proofs.Written.{file_read}
use Rattle.file_rules.proofs.WriteRead.{file_stands, file_reread}
use Rattle.cut_rules.specs.Cut.{Cut, numbers, eof_on_last, events, cut_refusal, cut_output}
use Rattle.cut_rules.specs.Laws.{Sixteen, Cut-read}
use Rattle.cut_rules.specs.Plays.{Ordered, powered, Fine, next as then, EitherOrder, control_first, buffer_first, many_ticks, cut_bytes, PlaysRead, Shipped-plays}
use Rattle.cut_rules.proofs.ChosenNumbers.{mask_small, numbers_small}
use Rattle.cut_rules.proofs.Given.{GoodCut, good_cut, cut_ends, cut_leaves}
use Rattle.cut_rules.proofs.Loading.{marked_small}
use Rattle.cut_rules.proofs.Passing.{no_loss_lem}
use Rattle.cut_rules.proofs.Plays.{same_boards, PlaysOut, cut_then_writes}

-- ---- Fields that fit

write_fits : (o v : ℕ) (es : List Event) → o < 256 → v < 2 ^ 32 → AllFit es → AllFit (write o v ∷ es)
write_fits o v es a b h = next {e = write o v} (a, b) h

loads_fit : (ws : List ℕ) → ((i : ℕ) → get_or ws i 0 < value_span) → AllFit (map (write 0x18) ws)
loads_fit [] f = none
loads_fit (w ∷ ws) f = write_fits 0x18 w _ (omega arith) (omega (arith, f 0)) (loads_fit ws (λ i. f (suc i)))

pub both_fit : (es fs : List Event) → AllFit es → AllFit fs → AllFit (es ++ fs)
both_fit [] fs none h = h
both_fit (e ∷ es) fs (next f g) h = next f (both_fit es fs g h)

pub ticks_fit : (n : ℕ) → AllFit (many_ticks n)
ticks_fit zero = none
ticks_fit (suc n) = next tt (ticks_fit n)

pub two_fit : (v w : ℕ) (two : List Event) → v < 2 ^ 32 → w < 2 ^ 32 → EitherOrder v w two → AllFit two
two_fit v w _ a b control_first = write_fits 0x00 v _ (omega arith) a (write_fits 0x0C w [] (omega arith) b none)
two_fit v w _ a b buffer_first = write_fits 0x0C w _ (omega arith) b (write_fits 0x00 v [] (omega arith) a none)

power_up_fits : (s : State) (x : Settings) → refusal s (power_up x) ≡ 0 → Fits (power_up x)
power_up_fits s x z =
    let r = (power_up_accepted s x z).0 in
    (omega (arith, r.fitted), omega (arith, r.range), omega (arith, r.filter), omega (arith, r.kit), omega (arith, r.firmware))

module _ (q : Cut) (sixteen : Sixteen q.recording) (n place : ℕ) (g : GoodCut q n place) where
  pub cut_fits : AllFit (events q)
  unfolding events
  cut_fits =
      write_fits 0x04 q.mask _ (omega arith) (omega (arith, mask_small q g.count g.grouped g.choice))
      (loads_fit (eof_on_last (numbers q)) (marked_small (numbers q) (numbers_small q sixteen)))

  pub ordered : Ordered q
  ordered = record { count = g.count; grouped = g.grouped; choice = g.choice; sixteen = sixteen }

pub cut_read_lem : Cut-read
cut_read_lem q out place sixteen z =
    let g = good_cut q (length out) place z in
    subst (λ (end : ℕ). Reread (events q) out place end (cut_output q out place)) (sym (cut_ends q out place z))
    (subst (Reread (events q) out place (place + length (file_of (events q)))) (sym (cut_leaves q out place z))
    (file_reread (events q) out place g.room (cut_fits q sixteen _ _ g)))

-- ---- The file that is shipped

pub records_append : (es fs : List Event) → records_of (es ++ fs) ≡ records_of es ++ records_of fs
unfolding records_of
records_append [] fs = refl
records_append (e ∷ es) fs = ap (λ (r : List ℕ). bytes_of e ++ r) (records_append es fs) ∙ sym (append_assoc (bytes_of e) (records_of es) (records_of fs))

-- the cutter's bytes from its second on are the records of its events
pub cut_records : (q : Cut) (out : List ℕ) (place : ℕ) → cut_refusal q (length out) place ≡ 0 → cut_bytes q out place ≡ records_of (events q)
unfolding file_of
cut_records q out place z =
    let g = good_cut q (length out) place z in
    let end = place + length (file_of (events q)) in
    let o = cut_output q out place in
    let long : length o ≡ length out = ap length (cut_leaves q out place z) ∙ length-sets out place (file_of (events q)) in
    (λ i. slice (suc place) (cut_ends q out place z i) o)
    ∙ sym (ap (drop 1) (slice-cons place end o 0 (omega arith) (omega (arith, long, g.room))))
    ∙ ap (λ (x : List ℕ). drop 1 (slice place end x)) (cut_leaves q out place z)
    ∙ ap (drop 1) (file_stands (events q) out place g.room)

-- Files of a power-up and of the events es n behind it: what these play is what is read and played.
module _ (q : Cut) (x : Settings) (v : ℕ) (m : List ℕ) (records : ℕ → List ℕ) (es : ℕ → List Event) (a : refusal (start m) (power_up x) ≡ 0)
    (same : (n : ℕ) → records n ≡ records_of (es n)) (fit : (n : ℕ) → AllFit (es n)) (h : PlaysOut q v (powered (start m) x) es) where
  abbrev file : ℕ → List ℕ
  file n = 1 ∷ bytes_of (power_up x) ++ records n

  file_session : (n : ℕ) → session (file n) ≡ record { events = power_up x ∷ es n; end = File }
  unfolding file_of records_of
  file_session n =
      ap (λ (r : List ℕ). session (1 ∷ bytes_of (power_up x) ++ r)) (same n)
      ∙ file_read (power_up x ∷ es n) (next (power_up_fits (start m) x a) (fit n))

  -- what holds of the events holds of the file
  read_as : (P : List Event → Type 0) (n : ℕ) → P (power_up x ∷ es n) → P (session (file n)).events
  read_as P n h = subst (λ (y : Session). P y.events) (sym (file_session n)) h

  pub file_plays : PlaysRead q v m file
  unfolding after outcomes
  file_plays =
      record {
        whole = λ n. ap (λ (y : Session). y.end) (file_session n);
        fine = λ n.
            read_as (λ (es : List Event). Fine (outcomes (start m) es)) n
            (then (refusal_answered (start m) (power_up x) ∙ a) (no_loss_lem (fate_none (start m) (power_up x) (λ z. z))) (h.fine n));
        plays = same_boards q v _ _ (λ n. sym (ap (λ (y : Session). after (start m) y.events) (file_session n))) h.plays;
      }

pub shipped_plays : Shipped-plays
shipped_plays q x v w two m out place sixteen z h p v-fits w_Fits e =
    let g = good_cut q (length out) place z in
    let after_cut : ℕ → List Event = λ n. two ++ many_ticks n in
    file_plays q x v m (λ n. cut_bytes q out place ++ records_of (after_cut n)) (λ n. events q ++ after_cut n) h.accepted
    (λ n. ap (λ (r : List ℕ). r ++ records_of (after_cut n)) (cut_records q out place z) ∙ sym (records_append (events q) (after_cut n)))
    (λ n. both_fit (events q) (after_cut n) (cut_fits q sixteen _ _ g) (both_fit two (many_ticks n) (two_fit v w two v-fits w_Fits e) (ticks_fit n)))
    (cut_then_writes q (start m) x v w two (ordered q sixteen _ _ g) h p e)
