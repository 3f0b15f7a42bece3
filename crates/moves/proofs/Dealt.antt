-- What dealing to the channels one after the other comes to, in the words of the rules: the levels laid, the places after as many values
-- left, and whether one of them carried EOF; and so what an accepted clock does.
use Prim.Native.Nat.{ℕ, zero, suc, ◌≤◌, ◌<◌}
use mathlib.Core.Path.{◌≡◌, refl, sym, ap, ◌∙◌}
use mathlib.Core.Logic.{◌≢◌}
use mathlib.Core.Bool.{Bool, true, false, cond, ◌||◌, or-false, or_assoc}
use mathlib.Core.List.{List, [], ◌∷◌, ◌++◌}
use native.Mathlib.Omega.{arith}
use borrow.Author.Tests.{ne_eqb}
use lib.ListN.{length, take, drop, length-drop}
use lib.Seq.{take-append-le}
use Rattle.rules.specs.Bits.{bit, some}
use Rattle.rules.specs.Record.{values}
use Rattle.rules.specs.Parts.{with_burst, with_load, with_outputs}
use Rattle.rules.specs.Clocks.{leave, recirculate, closed, targets, moving, cursor_after, laid, carries_eof, burst_ends, burst_after, load_after, outgoing, moves, clock}
use Rattle.rules.specs.declared.Fate.TheVariants.{NoLoad as none}
use Rattle.rules.specs.Place.{Place, times, place}
use Rattle.rules.proofs.Steps.{length_values}
use Rattle.laws.specs.Lists.{Good}
use Rattle.rules.proofs.Choice.{cond_false}
use Rattle.rules.specs.declared.Core.{Core}
use Rattle.rules.specs.declared.Ring.{Ring}
use Rattle.moves.specs.Ready.{Ready}
use Rattle.moves.specs.Does.{Does, ring_place, ring_values}
use Rattle.moves.specs.Deal.{Dealing, dealing, front, place_passed, place_now, deal_one, deal_all}
use Rattle.moves.specs.declared.Played.{Played}
use Rattle.moves.proofs.Rings.{ready_good, left_placed, left_count}
use Rattle.channels.proofs.Moving.{moving_some}

-- ---- One value

abbrev in_ring : ℕ → Dealing → List ℕ
in_ring d s = ring_values d s.ring s.memory

-- the values in order: the front one, and those after it
held_split : (d : ℕ) (s : Dealing) → zero < s.ring.count → in_ring d s ≡ front s ∷ drop 1 (in_ring d s)
unfolding values
held_split d s h = go s.ring.count refl
  where
    go : (n : ℕ) → s.ring.count ≡ n → in_ring d s ≡ front s ∷ drop 1 (in_ring d s)
    go zero e = absurd (omega arith)
    go (suc n) e = rw e

-- the first k after a value left are those that followed it
take_next : (again : Bool) (k : ℕ) (l : List ℕ) → k ≤ length (drop 1 l) → take k (cond again (drop 1 l ++ take 1 l) (drop 1 l)) ≡ take k (drop 1 l)
take_next true k l h = take-append-le k (drop 1 l) (take 1 l) h
take_next false k l h = refl

-- ---- A value to each channel of a list

pub record Dealt (binary again : Bool) (d : ℕ) (ks : List ℕ) (s : Dealing) : Type 0 where
  pub levels : (deal_all binary again d ks s).levels ≡ laid binary s.levels ks (take (length ks) (in_ring d s))
  pub places : place_now (deal_all binary again d ks s) ≡ times (place_passed again d) (length ks) (place_now s)
  pub ended : (deal_all binary again d ks s).ended ≡ s.ended || carries_eof (take (length ks) (in_ring d s))

pub dealt : (binary again : Bool) (d : ℕ) (ks : List ℕ) (s : Dealing) → Good d (place_now s) → length ks ≤ s.ring.count → Dealt binary again d ks s
unfolding deal_all deal_one laid times carries_eof some
dealt binary again d [] s g h = record { levels = refl; places = refl; ended = sym (or-false s.ended) }
dealt binary again d (k ∷ ks) s g h =
    let l = in_ring d s in
    let m = left_placed again d (place_now s) g (omega arith) in
    let r = dealt binary again d ks (deal_one binary again d k s) m.good (omega (arith, left_count again d (place_now s))) in
    let long = length_values d s.ring.first s.ring.count s.memory in
    let n = ap (take (length ks)) m.lists ∙ take_next again (length ks) l (omega (arith, length-drop 1 l, long)) in
    let split = sym (held_split d s (omega arith)) in
    let on : deal_all binary again d (k ∷ ks) s ≡ deal_all binary again d ks (deal_one binary again d k s) = cond_false _ _ _ (ne_eqb s.ring.count 0 (λ e. omega (arith, e, h))) in
    record {
      levels = ap (λ (x : Dealing). x.levels) on ∙ r.levels ∙ ap (laid binary _ ks) n ∙ ap (λ (x : List ℕ). laid binary s.levels (k ∷ ks) (take (suc (length ks)) x)) split;
      places = ap place_now on ∙ r.places;
      ended = ap (λ (x : Dealing). x.ended) on ∙ r.ended ∙ ap (λ (x : List ℕ). (s.ended || bit 16 (front s)) || carries_eof x) n
          ∙ or_assoc s.ended (bit 16 (front s)) (carries_eof (take (length ks) (drop 1 l)))
          ∙ ap (λ (x : List ℕ). s.ended || carries_eof (take (suc (length ks)) x)) split;
    }

-- ---- An accepted clock

-- what is dealt at a clock, from the levels, the ring and the memory before it
abbrev pub undealt : Core → Ring → List ℕ → Dealing
undealt c ring m = dealing c.outputs.levels ring false m

abbrev pub at_clock : Core → ℕ → Ring → List ℕ → Dealing
at_clock c d ring m = deal_all c.control.binary (closed c) d (targets c) (undealt c ring m)

-- the core that a clock leaves
abbrev pub core_after : Core → ℕ → List ℕ → Bool → Core
core_after c cursor levels ended =
    with_burst (burst_after ended c.burst)
    (with_load (load_after ended c.load)
    (with_outputs (record { mask = c.outputs.mask; cursor = cursor; levels = levels }) c))

left_outgoing : (c : Core) (d k : ℕ) (p : Place) → times (place_passed (closed c) d) k p ≡ place d (outgoing c k) p
unfolding outgoing place
left_outgoing c d k p = go (closed c)
  where
    go : (t : Bool) → times (place_passed t d) k p ≡ place d (cond t (recirculate k) (leave k)) p
    go true = refl
    go false = refl

-- the answer of the code where k values move
abbrev pub answer : Core → ℕ → Ring → List ℕ → ℕ → Played
answer c d ring m k =
    let x = at_clock c d ring m in
    record { core = core_after c (cursor_after c) x.levels x.ended; ring = x.ring; moved = k; fate = none }

-- dealing to the targets does what the rules say of a clock that moves values
pub dealt_does : (c : Core) (d : ℕ) (ring : Ring) (m : List ℕ) → Ready d ring m → moving c (ring_values d ring m) ≢ 0
    → Does d (clock c (ring_values d ring m)) ring m (answer c d ring m (moving c (ring_values d ring m))) (at_clock c d ring m).memory
unfolding clock moves burst_ends
dealt_does c d ring m ready h =
    let w = moving_some c (ring_values d ring m) h in
    go (moving c (ring_values d ring m)) h w.0 (omega (arith, w.1, length_values d ring.first ring.count m))
  where
    go : (k : ℕ) → k ≢ 0 → k ≡ length (targets c) → length (targets c) ≤ ring.count
        → Does d (moves c (ring_values d ring m) k) ring m (answer c d ring m k) (at_clock c d ring m).memory
    go zero n e l = absurd (n refl)
    go (suc k) n e l =
        let t = dealt c.control.binary (closed c) d (targets c) (undealt c ring m) (ready_good ready) l in
        let levels = t.levels ∙ ap (λ (n : ℕ). laid c.control.binary c.outputs.levels (targets c) (take n (ring_values d ring m))) (sym e) in
        let ended = t.ended ∙ ap (λ (n : ℕ). carries_eof (take n (ring_values d ring m))) (sym e) in
        let places = t.places ∙ ap (λ (n : ℕ). times (place_passed (closed c) d) n (ring_place ring m)) (sym e) ∙ left_outgoing c d (suc k) (ring_place ring m) in
        record {
          core = λ i. core_after c (cursor_after c) (levels i) (ended i);
          moved = refl;
          fate = refl;
          ring = ap (λ (p : Place). p.ring) places;
          memory = ap (λ (p : Place). p.memory) places;
        }
