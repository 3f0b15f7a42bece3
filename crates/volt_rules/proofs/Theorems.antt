-- From a file to its volts: the laws of the table, put together level by level.
use Prim.Native.Nat.{ℕ, zero, suc, ◌+◌, ◌-◌, ◌≤◌, ◌<◌}
use mathlib.Core.Path.{◌≡◌, refl, sym, ap, ◌∙◌, subst}
use mathlib.Core.Logic.{◌⊎◌, inl, inr}
use mathlib.Core.Bool.{true, true≢false}
use mathlib.Core.List.{List, [], ◌∷◌, ◌++◌, reverse}
use native.Mathlib.Nat.{zero-add}
use native.Mathlib.Omega.{arith}
use borrow.Author.Tests.{eq-eqb}
use lib.ListN.{length, get_or, take, drop, length-append, length-map, length-reverse, get_or-map}
use lib.Seq.{split_at, get_or-append_seam}
use lib.Ieee.{Float, le}
use Rattle.laws.specs.Types.{Event, power_up}
use Rattle.rules.specs.Record.{State, start}
use Rattle.rules.specs.Step.{step}
use Rattle.rules.specs.Session.{outcomes, after}
use Rattle.rules.proofs.Runs.{after_append}
use Rattle.rules.proofs.Steps.{refusal_answered}
use Rattle.rules.proofs.Refusals.{power_up_accepted}
use Rattle.file_rules.specs.Item.{File}
use Rattle.file_rules.specs.File.{session}
use Rattle.volt_rules.specs.declared.Extremes.{Extremes}
use Rattle.volt_rules.specs.Volts.{volts_of}
use Rattle.volt_rules.specs.Counting.{Counted, nothing_counted, counted}
use Rattle.volt_rules.specs.Table.{volts_at, counted_in, table_channels}
use Rattle.volt_rules.specs.Laws.{Exact, levels_after, NoneAccepted, TableGiven, bad_file, no_power, done, zeros, OneOf, Bounds, Factor, five, ten, twenty}
use Rattle.volt_rules.specs.Theorems.{LastPowerUp, level_since, ChannelVolts, Volts-played}
use Rattle.volt_rules.proofs.Lists.{turned_at}
use Rattle.volt_rules.proofs.Exact.{volts_exact, volts_order}
use Rattle.volt_rules.proofs.Playing.{Holds, start_holds}
use Rattle.volt_rules.proofs.Counting.{Powered, counts_since, powered_or_not, one_last}
use Rattle.volt_rules.proofs.Tables.{fault_some, event_sixteen, table_exactly, table_bounds, accepted_channels, twenty_long}
use Rattle.volt_rules.proofs.OfLevels.{factor_of}

-- ---- A run

run_sixteen : (s : State) (es : List Event) → (r : ℕ) × Holds r s.board.core → (r : ℕ) × Holds r (after s es).board.core
unfolding after
run_sixteen s [] h = h
run_sixteen s (e ∷ es) h = run_sixteen (step s e).state es (event_sixteen s e h)

abbrev end_levels : State → List ℕ
end_levels s = s.board.core.outputs.levels

-- the levels after each event are those of the state that the events so far leave
levels_at_lem : (s : State) (e : Event) (es : List Event) (j : ℕ) → j ≤ length es → get_or (levels_after s (e ∷ es)) j [] ≡ end_levels (after s (e ∷ take j es))
unfolding outcomes after
levels_at_lem s e es zero l = refl
levels_at_lem s e [] (suc j) l = absurd (omega (arith, l))
levels_at_lem s e (d ∷ es) (suc j) l = levels_at_lem (step s e).state d es j (omega (arith, l))

levels_long : (s : State) (es : List Event) → length (levels_after s es) ≡ length es
unfolding outcomes
levels_long s [] = refl
levels_long s (e ∷ es) = ap suc (levels_long (step s e).state es)

-- ---- Since a power-up that no other follows

exact_by : (range times level : ℕ) → Factor range times → level < 65536 → Exact times level (volts_of range level)
exact_by range times level five h = (volts_exact level h).0
exact_by range times level ten h = (volts_exact level h).1
exact_by range times level twenty h = (volts_exact level h).2

-- the levels since p, and the volts of the channel k by them, the latest first
module _ {s m : List ℕ} (p : LastPowerUp s m) (k : ℕ) where
  abbrev since : List (List ℕ)
  since = levels_after (after (start m) p.before) (power_up p.settings ∷ p.later)

  abbrev volts : List Float
  volts = volts_at k (record { range = p.settings.range; levels = reverse since })

  abbrev volts_since : ℕ → Float
  volts_since j = volts_of p.settings.range (level_since p k j)

  since_counted : counted_in s m ≡ record { range = p.settings.range; levels = reverse since }
  unfolding counted_in
  since_counted =
      ap (counted nothing_counted (start m)) p.events
      ∙ counts_since nothing_counted (start m) p.before p.later p.settings p.accepted p.no_other

  level_small : (j : ℕ) → level_since p k j < 65536
  level_small j = (run_sixteen (start m) _ (0, start_holds)).1.1 _

  volts_long : length volts ≡ suc (length p.later)
  volts_long = length-map (reverse since) _ ∙ length-reverse since ∙ levels_long _ _

  -- i from the latest, j from the power-up
  volts_there : (i j : ℕ) → i + j ≡ length p.later → get_or volts i (volts_of p.settings.range 0) ≡ volts_since j
  volts_there i j e =
      get_or-map (λ (levels : List ℕ). volts_of p.settings.range (get_or levels k 0)) (reverse since) i []
      ∙ ap (λ (levels : List ℕ). volts_of p.settings.range (get_or levels k 0))
      (turned_at since [] i j [] (ap suc e ∙ sym (levels_long _ _))
      ∙ levels_at_lem _ _ _ j (omega (arith, e))
      ∙ ap end_levels (sym (after_append (start m) p.before _)))

  -- volts that are among them, by how many are later
  volts_reached : (us ws : List Float) (v : Float) (j : ℕ) → volts ≡ us ++ (v ∷ ws) → length us + j ≡ length p.later → v ≡ volts_since j
  volts_reached us ws v j e l =
      sym (get_or-append_seam us v ws _) ∙ ap (λ (vs : List Float). get_or vs (length us) (volts_of p.settings.range 0)) (sym e) ∙ volts_there (length us) j l

  abbrev place_of : {v : Float} → OneOf v volts → ℕ
  place_of o = length p.later - length o.0

  volts_placed : (v : Float) (o : OneOf v volts) → v ≡ volts_since (place_of o)
  volts_placed v o =
      let long = sym volts_long ∙ ap length o.2 ∙ length-append o.0 (v ∷ o.1) in
      volts_reached o.0 o.1 v (place_of o) o.2 (omega (arith, long))

  volts_among : (j : ℕ) → j ≤ length p.later → OneOf (volts_since j) volts
  volts_among j l =
      let i = length p.later - j in
      let e = volts_there i j (omega (arith, l)) in (
        take i volts,
        drop (suc i) volts,
        split_at volts i (volts_of p.settings.range 0) (omega (arith, volts_long)) ∙ ap (λ (v : Float). take i volts ++ (v ∷ drop (suc i) volts)) e,
      )

  channel_volts : (times : ℕ) (x : Extremes) → Factor p.settings.range times → Bounds volts x → ChannelVolts times (level_since p k) (length p.later) x
  channel_volts times x f b =
      record {
        lowest_at = low;
        highest_at = top;
        lowest_since = omega arith;
        highest_since = omega arith;
        lowest = exact low (volts_placed x.lowest b.lowest_reached);
        highest = exact top (volts_placed x.highest b.highest_reached);
        last = exact (length p.later) (volts_reached [] b.last.0 x.last (length p.later) b.last.1 (zero-add _));
        between = λ j l.
            let i = b.inside (volts_since j) (volts_among j l) in (
              volts_order _ _ _ (level_small low) (level_small j)
                  (subst (λ (v : Float). le v (volts_since j) ≡ true) (volts_placed x.lowest b.lowest_reached) i.0),
              volts_order _ _ _ (level_small j) (level_small top)
                  (subst (λ (v : Float). le (volts_since j) v ≡ true) (volts_placed x.highest b.highest_reached) i.1),
            );
      }
    where
      low : ℕ
      low = place_of b.lowest_reached

      top : ℕ
      top = place_of b.highest_reached

      exact : (j : ℕ) {v : Float} → v ≡ volts_since j → Exact times (level_since p k j) v
      exact j e = subst (Exact times (level_since p k j)) (sym e) (exact_by _ times _ f (level_small j))

-- ---- The theorem

-- a session that is not refused has a last accepted power-up
record Playing (s m : List ℕ) : Type 0 where
  whole : (session s).end ≡ File
  power : LastPowerUp s m

playing : (s m : List ℕ) (n : ℕ) → TableGiven s m n → n ≡ 0 → Playing s m
playing s m n (bad_file why p h) e = absurd (true≢false (sym (eq-eqb _ 0 e) ∙ fault_some why))
playing s m n (no_power h k) e = absurd (omega (arith, e))
playing s m n (done before later x h parted a) e = record { whole = h; power = go (powered_or_not (start m) (session s).events) }
  where
    go : NoneAccepted (start m) (session s).events ⊎ Powered (start m) (session s).events → LastPowerUp s m
    go (inl k) = absurd (k before later x parted a)
    go (inr q) =
        record {
          before = q.before;
          settings = q.settings;
          later = q.later;
          events = q.parted;
          accepted = q.accepted;
          no_other = q.no_other;
        }

pub volts_played : Volts-played
volts_played s m h =
    let q = playing s m 0 ((table_exactly s m 0).0 h) refl in
    record {
      whole = q.whole;
      since = q.power;
      only = λ p r. one_last (start m) _ _ _ _ _ _ (sym p.events ∙ r.events) p.accepted r.accepted p.no_other r.no_other;
      factor = factor_by;
      twenty = ap length (accepted_channels s m h) ∙ twenty_long (counted_in s m);
      each = λ p times k f l. channel_volts p k times _ f (bounds_since p k (omega (arith, l)));
    }
  where
    factor_by : (p : LastPowerUp s m) → (times : ℕ) × Factor p.settings.range times
    factor_by p =
        let a = power_up_accepted (after (start m) p.before) p.settings (sym (refusal_answered _ (power_up p.settings)) ∙ p.accepted) in
        let f = factor_of p.settings.range a.0.range in
        (f.0, f.1)

    bounds_since : (p : LastPowerUp s m) (k : ℕ) → k < 20 → Bounds (volts p k) (get_or (table_channels s m) k zeros)
    bounds_since p k l =
        subst (λ (w : Counted). Bounds (volts_at k w) (get_or (table_channels s m) k zeros)) (since_counted p k) (table_bounds s m k l h)
