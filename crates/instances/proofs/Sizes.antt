-- The session files of the instances are read as they were written; their answers are computed, and the rest is what the theorems say.
use Prim.Native.Nat.{ℕ, zero, suc, ◌+◌, ◌*◌, ◌/◌, ◌≤◌, ◌<◌}
use mathlib.Core.Path.{◌≡◌, refl, sym, ap, ◌∙◌, subst}
use mathlib.Core.Logic.{◌≢◌}
use mathlib.Core.Bool.{cond}
use mathlib.Core.List.{List, [], ◌∷◌}
use native.Mathlib.Nat.{le_refl}
use native.Mathlib.Omega.{arith}
use lib.Dec.{ltb, eqb, lit<}
use lib.ListN.{replicate, take}
use Rattle.laws.specs.Types.{Event, power_up, write, read, signal}
use Rattle.rules.specs.Record.{stored, start}
use Rattle.rules.specs.Session.{after}
use Rattle.rules.specs.Bench.{bor, load, bor?, clk}
use Rattle.rules.proofs.Open.{rules_open}
use Rattle.file_rules.specs.declared.Fault.TheVariants.{Version, Cut, Length, Kind}
use Rattle.file_rules.specs.Item.{File, Refused}
use Rattle.file_rules.specs.Bytes.{records_of, file_of, AllFit, none, next}
use Rattle.file_rules.specs.File.{fault_number, length_of, signal_of, event_of, event_at, whole_record, record_at, item_at, from, Session, session, verdict}
use Rattle.file_rules.proofs.Written.{file_read}
use Rattle.demand3.specs.Demand3.{loses_nothing, Agree}
use Rattle.size_rules.specs.Coded.{sized, sized_all}
use Rattle.size_rules.specs.Smallest.{replays, plays_in_turn, lowest_from, codes, lowest, size_refusal, size_code}
use Rattle.size_rules.specs.Theorems.{events_with, Plays, Loses}
use Rattle.size_rules.specs.Laws.{WithCode, put, kept, AllWithCode, none, next, SizeGiven, bad_file, no_size, smallest, ReplayedInTurn}
use Rattle.size_rules.specs.Examples.{fit, numbered, loads, lent}
use Rattle.instances.specs.Sizes.{seventeen, nine, cut_short, other, Sizes-met, Sized-used, Exactly-used, Memory-used}
use Rattle.size_rules.proofs.Coded.{offset_in, sized_told}
use Rattle.size_rules.proofs.Theorems.{fault_other, named_plays, lower_lose, none_plays, higher_play}
use Rattle.size_rules.proofs.Laws.{size_exactly, memory_left_lem}

-- ---- The files are read

loads_fit : (v n : ℕ) → v + n < 1000 → AllFit (numbered v n load)
unfolding numbered
loads_fit v zero h = none
loads_fit v (suc n) h = next {e = load v} (lit< tt, omega (arith, h)) (loads_fit (v + 1) n (omega (arith, h)))

abbrev load_script : ℕ → ℕ → List Event
load_script d n = fit d ∷ bor 0x2F ∷ loads n

script_read : (d n : ℕ) → d < 16 → n < 100 → session (file_of (load_script d n)) ≡ record { events = load_script d n; end = File }
script_read d n h l =
    file_read (load_script d n)
    (next {e = fit d} (omega (arith, h), lit< tt, lit< tt, lit< tt, lit< tt) (next {e = bor 0x2F} (lit< tt, lit< tt) (loads_fit 1 n (omega (arith, l)))))

-- ---- Their answers

module _ (s m : List ℕ) (es : List Event) (read : session s ≡ record { events = es; end = File }) where
  refusal_of : size_refusal s m ≡ cond (ltb (lowest es m) codes) 0 19
  unfolding size_refusal
  refusal_of =
      ap (λ (x : Session). cond (eqb (verdict x.end).number 0) (cond (ltb (lowest x.events m) codes) 0 19) (verdict x.end).number) read

  code_of : size_refusal s m ≡ 0 → size_code s m ≡ lowest es m
  unfolding size_code
  code_of h = λ i. cond (eqb (h i) 0) (lowest (read i).events m) 0

seventeen_read : session seventeen ≡ record { events = load_script 2 17; end = File }
seventeen_read = script_read 2 17 (omega arith) (omega arith)

seventeen_lowest : lowest (load_script 2 17) lent ≡ 2
unfolding numbered sized sized_all loses_nothing replays plays_in_turn lowest_from lowest rules_open
seventeen_lowest = refl

nine_lowest : lowest (load_script 0 9) lent ≡ 16
unfolding numbered sized sized_all loses_nothing replays plays_in_turn lowest_from lowest rules_open
nine_lowest = refl

refused_not : size_refusal seventeen lent ≡ 0
refused_not = refusal_of seventeen lent _ seventeen_read ∙ ap (λ (k : ℕ). cond (ltb k codes) 0 19) seventeen_lowest

code_two : size_code seventeen lent ≡ 2
code_two = code_of seventeen lent _ seventeen_read refused_not ∙ seventeen_lowest

nine_read : session nine ≡ record { events = load_script 0 9; end = File }
nine_read = script_read 0 9 (omega arith) (omega arith)

refused_nine : size_refusal nine lent ≡ 19
refused_nine = refusal_of nine lent _ nine_read ∙ ap (λ (k : ℕ). cond (ltb k codes) 0 19) nine_lowest

eight_stored : stored (after (start lent) (take 10 (sized_all 2 (load_script 2 17)))) ≡ 1 ∷ 2 ∷ 3 ∷ 4 ∷ 5 ∷ 6 ∷ 7 ∷ 8 ∷ []
unfolding numbered sized sized_all rules_open
eight_stored = refl

-- ---- The theorems

pub sizes_met : Sizes-met
sizes_met =
    let named = named_plays seventeen lent refused_not in
    let higher = higher_play seventeen lent lent other 5 refused_not (subst (λ (k : ℕ). k ≤ 5) (sym code_two) (omega arith)) (omega arith) refl refl in
    let agree = subst (λ (k : ℕ). Agree (start lent) (take 10 (events_with seventeen k)) (start other) (take 10 (events_with seventeen 5))) code_two (higher.1 10) in
    let values = ap (λ (x : Session). stored (after (start lent) (take 10 (sized_all 2 x.events)))) seventeen_read ∙ eight_stored in
    let none = (none_plays nine lent).0 refused_nine in
    record {
      refusal = refused_not;
      code = code_two;
      within = named.0;
      named = subst (Plays seventeen 32) code_two named.1;
      lower = (
        lower_lose seventeen lent 0 refused_not (subst (λ (k : ℕ). 0 < k) (sym code_two) (omega arith)),
        lower_lose seventeen lent 1 refused_not (subst (λ (k : ℕ). 1 < k) (sym code_two) (omega arith)),
      );
      higher = higher.0;
      agree = agree;
      values = values;
      higher_values = sym agree.alike.values ∙ values;
      none = refused_nine;
      whole = none.0;
      all = none.1;
      none_over_other = (none_plays nine other).1 none;
    }

-- ---- Sized-told, taken apart

abbrev value_in : Event → ℕ
value_in (power_up x) = 0
value_in (write o v) = v
value_in (read o) = 0
value_in (signal x) = 0

put_is : {k : ℕ} {e e' : Event} → WithCode k e e' → (v : ℕ) → e ≡ write 0x0C v → e' ≡ write 0x0C (v / 16 * 16 + k)
put_is (put u w low high) v q = let z : u ≡ v = ap value_in q in ap (write 0x0C) (omega (arith, low, high, z))
put_is (kept e h) v q = absurd (h v q)

kept_is : {k : ℕ} {e e' : Event} → WithCode k e e' → offset_in e ≢ 0x0C → e' ≡ e
kept_is (put v w low high) h = absurd (h refl)
kept_is (kept e _) h = refl

five_coded : {xs : List Event} → AllWithCode 3 (fit 2 ∷ bor 0x12F ∷ load 0x9F ∷ bor? ∷ clk ∷ []) xs
    → xs ≡ fit 2 ∷ bor 0x123 ∷ load 0x9F ∷ bor? ∷ clk ∷ []
five_coded (next a (next b (next c (next d (next e none))))) = λ i.
    kept_is a (λ h. omega (arith, h)) i
    ∷ put_is b 0x12F refl i
    ∷ kept_is c (λ h. omega (arith, h)) i
    ∷ kept_is d (λ h. omega (arith, h)) i
    ∷ kept_is e (λ h. omega (arith, h)) i
    ∷ []

pub sized_used : Sized-used
sized_used = record { coded = five_coded (sized_told 3 (omega arith) _) }

-- ---- Size-exactly, taken apart

given_smallest : {s : List ℕ} {n r k : ℕ} → SizeGiven s n r k → r ≡ 0
    → (k ≤ 15) × ((session s).end ≡ File) × Plays s n k × ((j : ℕ) → j < k → Loses s n j)
given_smallest (bad_file why p h) q = absurd ((fault_other why).0 q)
given_smallest (no_size e l) q = absurd (omega (arith, q))
given_smallest (smallest k w e plays loses) q = (w, e, plays, loses)

given_none : {s : List ℕ} {n r k : ℕ} → SizeGiven s n r k → r ≡ 19
    → ((session s).end ≡ File) × ((j : ℕ) → j ≤ 15 → Loses s n j)
given_none (bad_file why p h) q = absurd ((fault_other why).1 q)
given_none (no_size e l) q = (e, l)
given_none (smallest k w e plays loses) q = absurd (omega (arith, q))

given_cut : {s : List ℕ} {n r k : ℕ} → SizeGiven s n r k → r ≡ 11 → (p : ℕ) × ((session s).end ≡ Refused Cut p)
unfolding fault_number
given_cut (bad_file Version p h) q = absurd (omega (arith, q))
given_cut (bad_file Cut p h) q = (p, h)
given_cut (bad_file Length p h) q = absurd (omega (arith, q))
given_cut (bad_file Kind p h) q = absurd (omega (arith, q))
given_cut (no_size e l) q = absurd (omega (arith, q))
given_cut (smallest k w e plays loses) q = absurd (omega (arith, q))

cut_numbers : (size_refusal cut_short lent ≡ 11) × (size_code cut_short lent ≡ 0)
unfolding size_refusal size_code fault_number length_of signal_of event_of event_at whole_record record_at item_at from session records_of file_of
cut_numbers = (refl, refl)

code_none : size_code nine lent ≡ 0
unfolding size_code
code_none = ap (λ (r : ℕ). cond (eqb r 0) (lowest (session nine).events lent) 0) refused_nine

pub exactly_used : Exactly-used
unfolding fault_number
exactly_used =
    let two = given_smallest ((size_exactly seventeen lent 0 2).0 (refused_not, code_two)) refl in
    let none = given_none ((size_exactly nine lent 19 0).0 (refused_nine, code_none)) refl in
    let bad = given_cut ((size_exactly cut_short lent 11 0).0 cut_numbers) refl in
    record {
      smallest = (two.1, two.2 other refl, two.3 1 (omega arith) other refl);
      smallest_over_other = (size_exactly seventeen other 0 2).1 (smallest 2 two.0 two.1 two.2 two.3);
      no_size = none;
      no_size_over_other = (size_exactly nine other 19 0).1 (no_size none.0 none.1);
      bad_file = bad;
      bad_file_over_other = (size_exactly cut_short other 11 0).1 (bad_file Cut bad.0 bad.1);
    }

-- ---- Memory-left, taken apart

-- memories that are left in turn are those of the replays
turns_left : {s m left : List ℕ} {n : ℕ} → ReplayedInTurn s m n left → left ≡ replays (session s).events m n
unfolding replays
turns_left {s} {m} {left} {n} t = t.last ∙ go n (le_refl n)
  where
    go : (k : ℕ) → k ≤ n → t.memories k ≡ replays (session s).events m k
    go zero l = t.lent
    go (suc k) l = t.each k l ∙ ap (λ (x : List ℕ). (after (start x) (events_with s k)).memory) (go k (omega (arith, l)))

three_turns : replays (load_script 2 17) lent 3
    ≡ 1 ∷ 2 ∷ 3 ∷ 4 ∷ 5 ∷ 6 ∷ 7 ∷ 8 ∷ 9 ∷ 10 ∷ 11 ∷ 12 ∷ 13 ∷ 14 ∷ 15 ∷ 16 ∷ 17 ∷ replicate 15 7
unfolding numbered sized sized_all replays rules_open
three_turns = refl

all_turns : replays (load_script 0 9) lent 16 ≡ 1 ∷ 2 ∷ 3 ∷ 4 ∷ 5 ∷ 6 ∷ 7 ∷ 8 ∷ replicate 24 7
unfolding numbered sized sized_all replays rules_open
all_turns = refl

pub memory_used : Memory-used
memory_used =
    let bad = exactly_used.bad_file in
    record {
      untouched = (memory_left_lem cut_short lent).untouched Cut bad.0 bad.1;
      named = turns_left ((memory_left_lem seventeen lent).named refused_not)
          ∙ (λ i. replays (seventeen_read i).events lent (suc (code_two i)))
          ∙ three_turns;
      all = turns_left ((memory_left_lem nine lent).all refused_nine) ∙ (λ i. replays (nine_read i).events lent 16) ∙ all_turns;
    }
