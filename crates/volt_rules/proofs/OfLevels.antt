-- Each number of a table is the exact volts of a level that counted.
use Prim.Native.Nat.{ℕ, zero, suc, ◌≤◌}
use mathlib.Core.Path.{◌≡◌, sym, ap, ◌∙◌, subst}
use mathlib.Core.List.{List, [], ◌∷◌, ◌++◌, map, append_assoc}
use native.Mathlib.Omega.{arith}
use lib.ListN.{get_or}
use lib.Ieee.{Float}
use Rattle.laws.specs.Types.{Settings, Event, power_up}
use Rattle.rules.specs.Record.{State, start}
use Rattle.rules.specs.Step.{step}
use Rattle.rules.proofs.Choice.{cases}
use Rattle.rules.proofs.Steps.{refusal_answered}
use Rattle.rules.proofs.Refusals.{power_up_accepted}
use Rattle.file_rules.specs.File.{session}
use Rattle.volt_rules.specs.declared.Extremes.{Extremes}
use Rattle.volt_rules.specs.Volts.{factor}
use Rattle.volt_rules.specs.Counting.{Counted, nothing_counted, starts_afresh, count_event, counted}
use Rattle.volt_rules.specs.Extremes.{last_of}
use Rattle.volt_rules.specs.Table.{extremes_of, channel, counted_in, power_refusal}
use Rattle.volt_rules.specs.Laws.{UpAccepted, Exact, Factor, five, ten, twenty, OfLevel, Table-exact, zeros}
use Rattle.volt_rules.proofs.Lists.{Each, each_parted, each_map}
use Rattle.volt_rules.proofs.Exact.{exactly, factors}
use Rattle.volt_rules.proofs.Playing.{Sixteen, up_fresh}
use Rattle.volt_rules.proofs.Counting.{is_up, also_counted}
use Rattle.volt_rules.proofs.Bounds.{High, lowest_best, highest_best}
use Rattle.volt_rules.proofs.Tables.{volts_in, volts_high, session_sure, accepted_some, accepted_channels, channel_at}

-- ---- The range of an accepted power-up

abbrev Ranged : Counted → Type 0
Ranged w = power_refusal w.levels ≡ 0 → w.range ≤ 2

up_ranged : (s : State) (x : Settings) → UpAccepted s x → (step s (power_up x)).state.board.core.options.range ≤ 2
up_ranged s x a =
    subst (λ (n : ℕ). n ≤ 2) (sym (up_fresh s x a).0) (power_up_accepted s x (sym (refusal_answered s (power_up x)) ∙ a)).0.range

count_ranged : (s : State) (e : Event) (w : Counted) → Ranged w → Ranged (count_event e (step s e) w)
unfolding count_event
count_ranged s e w h = cases Ranged (starts_afresh e (step s e)) (λ f _. up (is_up s e f)) (λ _ z. h (also_counted _ w.levels z))
  where
    up : (x : Settings) × (e ≡ power_up x) × UpAccepted s x → (step s e).state.board.core.options.range ≤ 2
    up (x, q, a) = subst (λ (d : Event). (step s d).state.board.core.options.range ≤ 2) (sym q) (up_ranged s x a)

counted_ranged : (w : Counted) (s : State) (es : List Event) → Ranged w → Ranged (counted w s es)
unfolding counted
counted_ranged w s [] h = h
counted_ranged w s (e ∷ es) h = counted_ranged (count_event e (step s e) w) (step s e).state es (count_ranged s e w h)

session_ranged : (s m : List ℕ) → Ranged (counted_in s m)
unfolding counted_in
session_ranged s m = counted_ranged nothing_counted (start m) (session s).events (λ z. absurd (omega (arith, z)))

pub factor_of : (r : ℕ) → r ≤ 2 → (t : ℕ) × Factor r t × (factor r ≡ t)
factor_of zero l = (5, five, factors.0)
factor_of (suc zero) l = (10, ten, factors.1)
factor_of (suc (suc zero)) l = (20, twenty, factors.2)
factor_of (suc (suc (suc r))) l = absurd (omega (arith, l))

-- ---- Level by level

module _ (w : Counted) (k : ℕ) (small : w.range ≤ 2) where
  of_level : (later earlier : List (List ℕ)) (x : List ℕ) → w.levels ≡ later ++ (x ∷ earlier) → Sixteen x → OfLevel w k (volts_in w.range k x)
  of_level later earlier x e h =
      let f = factor_of w.range small in
      record {
        later = later;
        levels = x;
        earlier = earlier;
        counts = e;
        times = f.0;
        factor = f.1;
        exact = subst (λ (t : ℕ). Exact t (get_or x k 0) (volts_in w.range k x)) f.2 (exactly w.range (get_or x k 0) (h k));
      }

  of_levels : (later xs : List (List ℕ)) → w.levels ≡ later ++ xs → Each Sixteen xs → Each (OfLevel w k) (map (volts_in w.range k) xs)
  of_levels later [] e h = tt
  of_levels later (x ∷ xs) e h =
      (of_level later xs x e h.0, of_levels (later ++ (x ∷ [])) xs (e ∙ sym (append_assoc later (x ∷ []) xs)) h.1)

  -- lowest, highest and last are among them
  three_of_level : (x : List ℕ) (xs : List (List ℕ)) → w.levels ≡ x ∷ xs → Each Sixteen (x ∷ xs)
      → (let e : Extremes = extremes_of (map (volts_in w.range k) (x ∷ xs)) in Each (OfLevel w k) (e.lowest ∷ e.highest ∷ e.last ∷ []))
  unfolding last_of
  three_of_level x xs e h =
      let vs = map (volts_in w.range k) (x ∷ xs) in
      let all = of_levels [] (x ∷ xs) e h in
      let high = each_map Sixteen High (volts_in w.range k) (volts_high w.range k) (x ∷ xs) h in
      let low = (lowest_best _ _ high).reached in
      let top = (highest_best _ _ high).reached in (
        each_parted (OfLevel w k) vs low.0 low.1 _ low.2 all,
        (each_parted (OfLevel w k) vs top.0 top.1 _ top.2 all, (all.0, tt)),
      )

-- ---- The law

abbrev three_numbers : Extremes → List Float
three_numbers e = e.lowest ∷ e.highest ∷ e.last ∷ []

pub table_exact : Table-exact
unfolding channel
table_exact s m k x l h o =
    let w = counted_in s m in
    let c = accepted_some s m h in
    let small = session_ranged s m (ap power_refusal c.2) in
    let three = three_of_level w k small c.0 c.1 c.2 (subst (Each Sixteen) c.2 (session_sure s m).sixteen) in
    let e = ap (λ (xs : List Extremes). get_or xs k zeros) (accepted_channels s m h) ∙ channel_at w k zeros l in
    let whole = subst (λ (xs : List (List ℕ)). Each (OfLevel w k) (three_numbers (extremes_of (map (volts_in w.range k) xs)))) (sym c.2) three in
    each_parted (OfLevel w k) _ o.0 o.1 x o.2 (subst (λ (z : Extremes). Each (OfLevel w k) (three_numbers z)) (sym e) whole)
