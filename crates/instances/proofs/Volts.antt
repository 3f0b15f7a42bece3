-- The session files of the instances are read by computation; the rest is what the theorem and the laws say.
use Prim.Native.Nat.{ℕ, zero, suc, ◌≤◌}
use mathlib.Core.Path.{◌≡◌, refl, sym, ap, ◌∙◌, subst, subst₂}
use mathlib.Core.Logic.{◌≢◌, ◌⊎◌, inl, inr}
use mathlib.Core.Bool.{Bool, true, ◌&&◌, true≢false}
use mathlib.Core.List.{List, [], ◌∷◌, ◌++◌, reverse}
use native.Mathlib.Nat.{zero-mul}
use native.Mathlib.Decide.{ℕ_discrete}
use native.Mathlib.Omega.{arith}
use borrow.Author.Tests.{leb-true, eqb-true, eq-eqb}
use lib.Dec.{leb, eqb, lit<}
use lib.ListN.{get_or}
use lib.Ieee.{Float, eq}
use Rattle.rules.specs.declared.Settings.{Settings}
use Rattle.rules.specs.declared.Event.{Event}
use Rattle.rules.specs.declared.Event.TheVariants.{PowerUp as power_up, Signal as signal}
use Rattle.rules.specs.declared.Signal.TheVariants.{Tick as tick}
use Rattle.rules.specs.Record.{start}
use Rattle.rules.specs.Step.{step}
use Rattle.rules.specs.Session.{after}
use Rattle.rules.specs.Bench.{mask, bor, load, clk}
use Rattle.rules.proofs.Choice.{and_both}
use Rattle.rules.proofs.Open.{rules_open}
use Rattle.file_rules.specs.declared.Fault.{Fault}
use Rattle.file_rules.specs.declared.Fault.TheVariants.{Version, Cut, Length, Kind}
use Rattle.file_rules.specs.Item.{End}
use Rattle.file_rules.specs.Item.{File, Refused}
use Rattle.file_rules.specs.File.{verdict, fault_number, session}
use Rattle.volt_rules.specs.declared.Extremes.{Extremes}
use Rattle.volt_rules.specs.Volts.{zero_volts}
use Rattle.volt_rules.specs.Counting.{Counted, is_power_up, counted}
use Rattle.volt_rules.specs.Table.{volts_at, counted_in, table_refusal}
use Rattle.volt_rules.specs.Laws.{Exact, UpAccepted, NoneAccepted, levels_after, TableGiven, bad_file, no_power, done, OneOf, Bounds, three_of, OfLevel, Factor, five, ten, twenty}
use Rattle.volt_rules.specs.FileTables.{junk, two_power_ups, one_level, back_again, not_powered}
use Rattle.volt_rules.specs.Theorems.{LastPowerUp, level_since, ChannelVolts, VoltsPlayed}
use Rattle.instances.specs.Volts.{board_in, events_before, events_later, volts_on, VoltsAbove, VoltsBelow, AllZero, power_up_alone, ends_inside, all_midrange, one_moved, Volts-met, Volt-laws-met}
use Rattle.volt_rules.proofs.Open.{files_open, tables_open}
use Rattle.volt_rules.proofs.Lists.{Each, each_parted}
use Rattle.volt_rules.proofs.Exact.{volts_exact}
use Rattle.volt_rules.proofs.Counting.{counts_since, counts_none, never_afresh, never_none}
use Rattle.volt_rules.proofs.Tables.{fault_some, table_exactly, table_refused, table_bounds, zero_positive}
use Rattle.volt_rules.proofs.OfLevels.{table_exact}
use Rattle.volt_rules.proofs.Theorems.{volts_played}

-- ---- Levels between two numbers

levels_within : (ℕ → ℕ) → ℕ → ℕ → ℕ → Bool
levels_within level zero lo hi = leb lo (level 0) && leb (level 0) hi
levels_within level (suc n) lo hi = (leb lo (level (suc n)) && leb (level (suc n)) hi) && levels_within level n lo hi

within_at : (level : ℕ → ℕ) (n lo hi : ℕ) → levels_within level n lo hi ≡ true → (j : ℕ) → j ≤ n → (lo ≤ level j) × (level j ≤ hi)
unfolding levels_within
within_at level zero lo hi h j l =
    let t = and_both (leb lo (level 0)) (leb (level 0) hi) h in
    let e : 0 ≡ j = omega (arith, l) in
    subst (λ (i : ℕ). (lo ≤ level i) × (level i ≤ hi)) e (leb-true lo (level 0) t.0, leb-true (level 0) hi t.1)
within_at level (suc n) lo hi h j l = go (ℕ_discrete (suc n) j) (within_at level n lo hi t.1 j)
  where
    t : (leb lo (level (suc n)) && leb (level (suc n)) hi ≡ true) × (levels_within level n lo hi ≡ true)
    t = and_both (leb lo (level (suc n)) && leb (level (suc n)) hi) (levels_within level n lo hi) h

    go : Dec (suc n ≡ j) → (j ≤ n → (lo ≤ level j) × (level j ≤ hi)) → (lo ≤ level j) × (level j ≤ hi)
    go (yes e) r =
        let b = and_both (leb lo (level (suc n))) (leb (level (suc n)) hi) t.0 in
        subst (λ (i : ℕ). (lo ≤ level i) × (level i ≤ hi)) e (leb-true lo _ b.0, leb-true _ hi b.1)
    go (no d) r = r (omega (arith, l, d))

-- the lowest is seen at i, the highest at j, and the last is `end`
seen : (ℕ → ℕ) → ℕ → ℕ → ℕ → ℕ → ℕ → ℕ → Bool
seen level n i j lo hi end =
    levels_within level n lo hi && (leb i n && (leb j n && (eqb (level i) lo && (eqb (level j) hi && eqb (level n) end))))

plainly : {times n : ℕ} {level : ℕ → ℕ} {x : Extremes} → ChannelVolts times level n x → (i j lo hi end : ℕ) → seen level n i j lo hi end ≡ true
    → Exact times lo x.lowest × Exact times hi x.highest × Exact times end x.last
unfolding seen
plainly {times} {n} {level} {x} c i j lo hi end h =
    let a = and_both (levels_within level n lo hi) _ h in
    let b = and_both (leb i n) _ a.1 in
    let d = and_both (leb j n) _ b.1 in
    let e = and_both (eqb (level i) lo) _ d.1 in
    let f = and_both (eqb (level j) hi) _ e.1 in
    let u = within_at level n lo hi a.0 c.lowest_at c.lowest_since in
    let w = within_at level n lo hi a.0 c.highest_at c.highest_since in
    let low : level c.lowest_at ≡ lo = omega (arith, u.0, (c.between i (leb-true i n b.0)).0, eqb-true (level i) lo e.0) in
    let top : level c.highest_at ≡ hi = omega (arith, w.1, (c.between j (leb-true j n d.0)).1, eqb-true (level j) hi f.0) in (
      subst (λ (l : ℕ). Exact times l x.lowest) low c.lowest,
      subst (λ (l : ℕ). Exact times l x.highest) top c.highest,
      subst (λ (l : ℕ). Exact times l x.last) (eqb-true (level n) end f.1) c.last,
    )

-- what one factor is
factor_one : (range times : ℕ) → Factor range times → range ≡ 1 → times ≡ 10
factor_one range times five e = absurd (omega (arith, e))
factor_one range times ten e = refl
factor_one range times twenty e = absurd (omega (arith, e))

-- ---- Two power-ups

two_read : (session two_power_ups).events ≡ events_before ++ (power_up (board_in 1) ∷ events_later)
unfolding files_open
two_read = refl

two_whole : (session two_power_ups).end ≡ File
unfolding files_open
two_whole = refl

two_accepted : UpAccepted (after (start junk) events_before) (board_in 1)
unfolding rules_open
two_accepted = refl

two_never : never_afresh (step (after (start junk) events_before) (power_up (board_in 1))).state events_later ≡ true
unfolding never_afresh is_power_up rules_open
two_never = refl

abbrev second : LastPowerUp two_power_ups junk
second =
    record {
      before = events_before;
      settings = board_in 1;
      later = events_later;
      events = two_read;
      accepted = two_accepted;
      no_other = never_none _ events_later two_never;
    }

two_table : table_refusal two_power_ups junk ≡ 0
two_table = (table_exactly two_power_ups junk 0).1 (done events_before events_later (board_in 1) two_whole two_read two_accepted)

two_played : VoltsPlayed two_power_ups junk
two_played = volts_played two_power_ups junk two_table

two_factor : Factor 1 10
two_factor = let f = two_played.factor second in subst (Factor 1) (factor_one 1 f.0 f.1 refl) f.1

seen_first : seen (level_since second 0) 14 7 10 0x4000 0xE000 0x9000 ≡ true
unfolding seen levels_within rules_open
seen_first = refl

seen_next : seen (level_since second 1) 14 12 14 0x4000 0xE000 0xE000 ≡ true
unfolding seen levels_within rules_open
seen_next = refl

seen_unfitted : seen (level_since second 19) 14 0 14 0x8000 0x8000 0x8000 ≡ true
unfolding seen levels_within rules_open
seen_unfitted = refl

-- ---- One alone

alone_accepted : (range times : ℕ) → Factor range times → UpAccepted (after (start junk) []) (board_in range)
unfolding rules_open
alone_accepted range times five = refl
alone_accepted range times ten = refl
alone_accepted range times twenty = refl

module _ (range times : ℕ) (f : Factor range times) where
  alone_read : (session (power_up_alone range)).events ≡ power_up (board_in range) ∷ []
  unfolding files_open
  alone_read = refl

  alone_whole : (session (power_up_alone range)).end ≡ File
  unfolding files_open
  alone_whole = refl

  nothing_later : NoneAccepted (step (after (start junk) []) (power_up (board_in range))).state []
  unfolding never_afresh
  nothing_later = never_none _ [] refl

  abbrev sole : LastPowerUp (power_up_alone range) junk
  sole =
      record {
        before = [];
        settings = board_in range;
        later = [];
        events = alone_read;
        accepted = alone_accepted range times f;
        no_other = nothing_later;
      }

  alone_table : table_refusal (power_up_alone range) junk ≡ 0
  alone_table = (table_exactly (power_up_alone range) junk 0).1 (done [] [] (board_in range) alone_whole alone_read (alone_accepted range times f))

seen_alone : (range times : ℕ) (f : Factor range times) → seen (level_since (sole range times f) 0) 0 0 0 0x8000 0x8000 0x8000 ≡ true
unfolding seen levels_within rules_open
seen_alone range times five = refl
seen_alone range times ten = refl
seen_alone range times twenty = refl

all_zero : (times : ℕ) (x : Extremes) → Exact times 0x8000 x.lowest × Exact times 0x8000 x.highest × Exact times 0x8000 x.last → AllZero x
all_zero times x e = (zero_by e.0, zero_by e.1, zero_by e.2)
  where
    zero_by : {v : Float} → Exact times 0x8000 v → VoltsAbove 0 v
    zero_by {v} k = subst (λ (n : ℕ). VoltsAbove n v) (zero-mul times) (k.above (omega arith))

alone_zero : (range times : ℕ) → Factor range times → AllZero (volts_on (power_up_alone range) 0)
alone_zero range times f =
    let v = volts_played (power_up_alone range) junk (alone_table range times f) in
    all_zero times _ (plainly (v.each (sole range times f) times 0 f (omega arith)) 0 0 0x8000 0x8000 0x8000 (seen_alone range times f))

-- ---- The theorem

pub volts_met : Volts-met
unfolding files_open rules_open
volts_met =
    let first = plainly (two_played.each second 10 0 two_factor (omega arith)) 7 10 0x4000 0xE000 0x9000 seen_first in
    let next = plainly (two_played.each second 10 1 two_factor (omega arith)) 12 14 0x4000 0xE000 0xE000 seen_next in
    let unfitted = plainly (two_played.each second 10 19 two_factor (omega arith)) 0 14 0x8000 0x8000 0x8000 seen_unfitted in
    record {
      refusals = refl;
      fates = refl;
      refusal = two_table;
      power = second;
      before = refl;
      settings = refl;
      later = refl;
      whole = two_played.whole;
      since = two_played.since;
      only = two_played.only two_played.since second;
      factor = two_factor;
      twenty = two_played.twenty;
      lowest = first.0.below (omega arith);
      highest = first.1.above (omega arith);
      last = first.2.above (omega arith);
      highest_last = (next.1.above (omega arith), next.2.above (omega arith));
      unmoved = all_zero 10 _ unfitted;
      alone = (alone_zero 0 5 five, alone_zero 1 10 ten, alone_zero 2 20 twenty);
    }

-- ---- What counted

abbrev then_nine : List Event
then_nine = load 0x9000 ∷ bor 0x20 ∷ clk ∷ []

nine_never : never_afresh (step (after (start junk) events_before) (power_up (board_in 1))).state then_nine ≡ true
unfolding never_afresh is_power_up rules_open
nine_never = refl

nine_levels : reverse (levels_after (after (start junk) events_before) (power_up (board_in 1) ∷ then_nine)) ≡ one_moved ∷ all_midrange ∷ all_midrange ∷ all_midrange ∷ []
unfolding rules_open
nine_levels = refl

nine_counted : (w : Counted) → counted w (start junk) (events_before ++ (power_up (board_in 1) ∷ then_nine))
    ≡ record { range = 1; levels = one_moved ∷ all_midrange ∷ all_midrange ∷ all_midrange ∷ [] }
nine_counted w =
    counts_since w (start junk) events_before then_nine (board_in 1) two_accepted (never_none _ then_nine nine_never)
    ∙ (λ i. record { range = 1; levels = nine_levels i })

refused_never : never_afresh (start junk) (power_up (board_in 3) ∷ signal tick ∷ []) ≡ true
unfolding never_afresh is_power_up rules_open
refused_never = refl

-- ---- Refusals

one_read : (session one_level).events ≡ power_up (board_in 1) ∷ mask 1 ∷ bor 0x20 ∷ load 0x15432 ∷ clk ∷ []
unfolding files_open
one_read = refl

one_whole : (session one_level).end ≡ File
unfolding files_open
one_whole = refl

one_accepted : UpAccepted (after (start junk) []) (board_in 1)
unfolding rules_open
one_accepted = refl

one_told : table_refusal one_level junk ≡ 0
one_told = (table_exactly one_level junk 0).1 (done [] _ (board_in 1) one_whole one_read one_accepted)

not_whole_lem : (session not_powered).end ≡ File
unfolding files_open
not_whole_lem = refl

not_read : (session not_powered).events ≡ power_up (board_in 3) ∷ []
unfolding files_open
not_read = refl

not_never : never_afresh (start junk) (session not_powered).events ≡ true
unfolding never_afresh is_power_up files_open rules_open
not_never = refl

not_told : table_refusal not_powered junk ≡ 18
not_told = (table_exactly not_powered junk 18).1 (no_power not_whole_lem (never_none _ _ not_never))

inside_end : (session ends_inside).end ≡ Refused Cut 37
unfolding files_open
inside_end = refl

inside_told : table_refusal ends_inside junk ≡ 11
unfolding fault_number
inside_told = (table_exactly ends_inside junk 11).1 (bad_file Cut 37 inside_end)

fault_not_18 : (why : Fault) → fault_number why ≢ 18
unfolding fault_number
fault_not_18 Version e = omega (arith, e)
fault_not_18 Cut e = omega (arith, e)
fault_not_18 Length e = omega (arith, e)
fault_not_18 Kind e = omega (arith, e)

-- what each number says
module _ {s m : List ℕ} where
  given_0 : (n : ℕ) → TableGiven s m n → n ≡ 0
      → ((session s).end ≡ File) × ((before : List Event) × (x : Settings) × UpAccepted (after (start m) before) x)
  given_0 n (bad_file why p h) e = absurd (true≢false (sym (eq-eqb _ 0 e) ∙ fault_some why))
  given_0 n (no_power h k) e = absurd (omega (arith, e))
  given_0 n (done before later x h parted a) e = (h, (before, x, a))

  given_18 : (n : ℕ) → TableGiven s m n → n ≡ 18 → ((session s).end ≡ File) × NoneAccepted (start m) (session s).events
  given_18 n (bad_file why p h) e = absurd (fault_not_18 why e)
  given_18 n (no_power h k) e = (h, k)
  given_18 n (done before later x h parted a) e = absurd (omega (arith, e))

  given_11 : (n : ℕ) → TableGiven s m n → n ≡ 11 → (verdict (session s).end).number ≡ 11
  given_11 n (bad_file why p h) e = ap (λ (x : End). (verdict x).number) h ∙ e
  given_11 n (no_power h k) e = absurd (omega (arith, e))
  given_11 n (done before later x h parted a) e = absurd (omega (arith, e))

refused_alone : NoneAccepted (start junk) (session not_powered).events → ¬ UpAccepted (start junk) (board_in 3)
unfolding after
refused_alone n = n [] [] (board_in 3) not_read

-- ---- Numbers

-- where one thing counted, what is found is that
only_one : (z v : Float) → OneOf v (z ∷ []) → v ≡ z
only_one z v o = each_parted (λ (w : Float). w ≡ z) (z ∷ []) o.0 o.1 v o.2 (refl, tt)

alone_counted : volts_at 0 (counted_in (power_up_alone 0) junk) ≡ zero_volts ∷ []
unfolding tables_open
alone_counted = refl

alone_bounds : Bounds (zero_volts ∷ []) (volts_on (power_up_alone 0) 0)
alone_bounds = subst (λ (vs : List Float). Bounds vs (volts_on (power_up_alone 0) 0)) alone_counted (table_bounds (power_up_alone 0) junk 0 (omega arith) (alone_table 0 5 five))

-- the levels of channel 0 that counted
abbrev OneOfTwo : List ℕ → Type 0
OneOfTwo levels = (get_or levels 0 0 ≡ 0x5432) ⊎ (get_or levels 0 0 ≡ 0x8000)

one_counted : Each OneOfTwo (counted_in one_level junk).levels × ((counted_in one_level junk).range ≡ 1)
unfolding tables_open
one_counted = ((inl refl, (inr refl, (inr refl, (inr refl, (inr refl, tt))))), refl)

one_of_two : (x : Float) → OneOf x (three_of one_level junk 0) → VoltsBelow 112140 x ⊎ VoltsAbove 0 x
one_of_two x o = go (each_parted OneOfTwo _ v.later v.earlier v.levels v.counts one_counted.0)
  where
    v : OfLevel (counted_in one_level junk) 0 x
    v = table_exact one_level junk 0 x (omega arith) one_told o

    exact : (level : ℕ) → get_or v.levels 0 0 ≡ level → Exact 10 level x
    exact level e = subst₂ (λ (t l : ℕ). Exact t l x) (factor_one _ _ v.factor one_counted.1) e v.exact

    go : OneOfTwo v.levels → VoltsBelow 112140 x ⊎ VoltsAbove 0 x
    go (inl e) = inl ((exact 0x5432 e).below (omega arith))
    go (inr e) = inr ((exact 0x8000 e).above (omega arith))

-- ---- Zeros

zeros_seen : (eq (volts_on back_again 0).last zero_volts ≡ true)
    × (eq (volts_on back_again 0).highest zero_volts ≡ true)
    × (eq (volts_on back_again 19).lowest zero_volts ≡ true)
    × (eq (volts_on not_powered 20).lowest zero_volts ≡ true)
unfolding tables_open
zeros_seen = (refl, refl, refl, refl)

-- ---- The laws

pub volt_laws_met : Volt-laws-met
volt_laws_met =
    let below = volts_exact 0x7FFF (lit< tt) in
    let above = volts_exact 0x8001 (lit< tt) in
    let low = volts_exact 0 (lit< tt) in
    let high = volts_exact 0xFFFF (lit< tt) in
    let two = table_bounds two_power_ups junk 0 (omega arith) two_table in
    record {
      step_below = (below.0.below (omega arith), below.1.below (omega arith), below.2.below (omega arith));
      step_above = (above.0.above (omega arith), above.1.above (omega arith), above.2.above (omega arith));
      lowest_level = (low.0.below (omega arith), low.1.below (omega arith), low.2.below (omega arith));
      highest_level = (high.0.above (omega arith), high.1.above (omega arith), high.2.above (omega arith));
      counts_since = nine_counted _;
      counts_none = counts_none (start junk) _ (never_none _ _ refused_never);
      told_0 = one_told;
      told_18 = not_told;
      told_11 = inside_told;
      from_0 = given_0 0 ((table_exactly one_level junk 0).0 one_told) refl;
      from_18 = let g = given_18 18 ((table_exactly not_powered junk 18).0 not_told) refl in (g.0, refused_alone g.1);
      from_11 = given_11 11 ((table_exactly ends_inside junk 11).0 inside_told) refl;
      zeros_18 = table_refused not_powered junk (λ z. omega (arith, z, not_told));
      zeros_11 = table_refused ends_inside junk (λ z. omega (arith, z, inside_told));
      alone_lowest = only_one _ _ alone_bounds.lowest_reached;
      alone_highest = only_one _ _ alone_bounds.highest_reached;
      alone_inside = alone_bounds.inside zero_volts ([], [], refl);
      alone_last = only_one _ _ ([], alone_bounds.last.0, alone_bounds.last.1);
      ordered = two.ordered;
      around = two.midrange;
      exact_lowest = one_of_two _ ([], _, refl);
      exact_highest = one_of_two _ (_ ∷ [], _, refl);
      exact_last = one_of_two _ (_ ∷ _ ∷ [], [], refl);
      zero_last = zero_positive back_again junk 0 _ (_ ∷ _ ∷ [], [], refl) zeros_seen.0;
      zero_highest = zero_positive back_again junk 0 _ (_ ∷ [], _, refl) zeros_seen.1;
      zero_lowest = zero_positive back_again junk 19 _ ([], _, refl) zeros_seen.2;
      zero_refused = zero_positive not_powered junk 20 _ ([], _, refl) zeros_seen.3;
    }
