-- What an end-of-frame mark among the values of one clock does.
use Prim.Native.Nat.{ℕ, zero, suc, ◌+◌, ◌%◌, ◌<◌, suc-le-suc}
use mathlib.Core.Path.{◌≡◌, refl, sym, ap, ◌∙◌}
use mathlib.Core.Bool.{Bool, true, false, not, ◌&&◌, false≢true}
use mathlib.Core.List.{List, [], ◌∷◌, map}
use native.Mathlib.Nat.{zero-lt-suc, mod-lt}
use native.Mathlib.Omega.{arith}
use lib.ListN.{length, get_or, take, length-take, length-map, get_or-map}
use lib.Seq.{get_or-take}
use Rattle.laws.specs.Types.{Load, Core, signal}
use Rattle.rules.specs.Bits.{bit, some}
use Rattle.rules.specs.Record.{State, value_span, values, stored}
use Rattle.rules.specs.Clocks.{carries_eof, burst_ends, burst_after, load_after}
use Rattle.rules.specs.Step.{step}
use Rattle.laws.specs.Moved.{group_size}
use Rattle.laws.specs.Frames.{AnyEof, Clock-frame}
use Rattle.rules.proofs.Choice.{cond_true, cond_false, or_left, or_right, not_true}
use Rattle.laws.proofs.AddedBits.{top_bit, bit_least}
use Rattle.laws.proofs.Clocks.{clock_ran}

-- ---- Stored values have 17 bits

values_below : (d f c i : ℕ) (m : List ℕ) → get_or (values d f c m) i 0 < value_span
unfolding values
values_below d f zero i m = omega arith
values_below d f (suc c) zero m = mod-lt (get_or m f 0) (omega arith)
values_below d f (suc c) (suc i) m = values_below d ((f + 1) % d) c i m

stored_below : (s : State) (i : ℕ) → get_or (stored s) i 0 < value_span
unfolding stored
stored_below s i = values_below _ _ _ i _

-- ---- some, by the test that holds

some_at : (ts : List Bool) (i : ℕ) → get_or ts i false ≡ true → some ts ≡ true
unfolding some
some_at [] i h = absurd (false≢true h)
some_at (t ∷ ts) zero h = or_left t (some ts) h
some_at (t ∷ ts) (suc i) h = or_right t (some ts) (some_at ts i h)

some_index : (ts : List Bool) → some ts ≡ true → (i : ℕ) × (i < length ts) × (get_or ts i false ≡ true)
unfolding some
some_index [] h = absurd (false≢true h)
some_index (true ∷ ts) h = (0, zero-lt-suc (length ts), refl)
some_index (false ∷ ts) h =
    let r = some_index ts h in
    (suc r.0, suc-le-suc r.1, r.2)

-- ---- The test is the words

eof_from : (s : State) (n : ℕ) → AnyEof (take n (stored s)) → carries_eof (take n (stored s)) ≡ true
unfolding carries_eof
eof_from s n h =
    let l : h.index < n = omega (arith, h.inside, length-take n (stored s)) in
    let below : get_or (take n (stored s)) h.index 0 < value_span = rw (get_or-take n (stored s) h.index 0 l) (stored_below s h.index) in
    some_at (map (bit 16) (take n (stored s))) h.index
    (get_or-map (bit 16) (take n (stored s)) h.index 0 ∙ top_bit 16 _ below h.marked)

eof_to : (vs : List ℕ) → carries_eof vs ≡ true → AnyEof vs
unfolding carries_eof
eof_to vs t =
    let r = some_index (map (bit 16) vs) t in
    record {
      index = r.0;
      inside = rw (length-map vs (bit 16)) at r.1;
      marked = bit_least 16 _ (sym (get_or-map (bit 16) vs r.0 0) ∙ r.2);
    }

-- ---- What the mark does

load_ended : (ended opened : Bool) (x : Load) → ended ≡ true → not x.opened && x.pending ≡ opened
    → load_after ended x ≡ record { pending = false; opened = opened }
unfolding load_after
load_ended ended opened x t e = rw (t, e)

pub clock_frame : Clock-frame
unfolding burst_after burst_ends load_after
clock_frame s x z a h =
    let r = clock_ran s x z a h in
    let n = group_size s.board in
    let burst = ap (λ (y : Core). y.burst) r.core in
    let load = ap (λ (y : Core). y.load) r.core in
    let eof : AnyEof (take (step s (signal x)).answer.moved (stored s)) → carries_eof (take n (stored s)) ≡ true = λ k. eof_from s n (rw r.moved at k) in
    record {
      burst = λ k. burst ∙ cond_true _ _ _ (eof k);
      closes = λ k e. load ∙ load_ended _ false s.board.core.load (eof k) (rw e);
      opens = λ k e e'. load ∙ load_ended _ true s.board.core.load (eof k) (rw (e, e'));
      unasked = λ k e e'. load ∙ load_ended _ false s.board.core.load (eof k) (rw (e, e'));
      within = λ k.
          let none : carries_eof (take n (stored s)) ≡ false = not_true _ (λ t. k (rw r.moved (eof_to _ t))) in
          (burst ∙ cond_false _ _ _ none, load ∙ cond_false _ _ _ none);
    }
