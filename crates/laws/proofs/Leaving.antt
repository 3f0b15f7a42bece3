-- Where the values stand after a clock: `first` moves on by as many as it moved; what is stored again is in Again.
use Prim.Native.Nat.{ℕ, zero, suc, ◌+◌, ◌%◌, ◌≤◌, ◌<◌}
use mathlib.Core.Path.{◌≡◌, refl, ap, ◌∙◌}
use native.Mathlib.Nat.{mod-lt}
use native.Mathlib.Omega.{arith}
use lib.ListN.{get_or}
use Rattle.rules.specs.Record.{depth, stored}
use Rattle.laws.specs.Types.{signal}
use Rattle.rules.specs.Clocks.{Op, closed, outgoing}
use Rattle.rules.specs.Place.{Place, place_leave, place_again, times, place, place_of}
use Rattle.rules.specs.Step.{step}
use Rattle.rules.specs.Laws.Closed.{Closed}
use Rattle.laws.specs.Moved.{group_size}
use Rattle.laws.specs.Places.{Clock-place}
use Rattle.rules.proofs.Choice.{either}
use Rattle.laws.proofs.Places.{mod_here, mod_shift}
use Rattle.laws.proofs.Again.{onward, turns_others, turns_again}
use Rattle.rules.proofs.Steps.{stored_length}
use Rattle.rules.proofs.Refusals.{refusal_stands}
use Rattle.laws.proofs.Kept.{stands_fit}
use Rattle.laws.proofs.Clocks.{outgoing_open, outgoing_closed, clock_ran}

-- k leave for good
leaves_first : (d k : ℕ) (p : Place) → p.ring.first < d → (times (place_leave d) k p).ring.first ≡ (p.ring.first + k) % d
unfolding times
leaves_first d zero p h = mod_here p.ring.first d h
leaves_first d (suc k) p h = leaves_first d k (place_leave d p) (mod-lt _ (omega arith)) ∙ mod_shift p.ring.first k d

leaves_count : (d k : ℕ) (p : Place) → k ≤ p.ring.count → (times (place_leave d) k p).ring.count + k ≡ p.ring.count
unfolding times
leaves_count d zero p h = omega arith
leaves_count d (suc k) p h = omega (arith, leaves_count d k (place_leave d p) (omega arith))

leaves_memory : (d k : ℕ) (p : Place) → (times (place_leave d) k p).memory ≡ p.memory
unfolding times
leaves_memory d zero p = refl
leaves_memory d (suc k) p = leaves_memory d k (place_leave d p)

-- k leave and are stored again
turns_first : (d k : ℕ) (p : Place) → p.ring.first < d → (times (place_again d) k p).ring.first ≡ (p.ring.first + k) % d
unfolding times
turns_first d zero p h = mod_here p.ring.first d h
turns_first d (suc k) p h = turns_first d k (place_again d p) (mod-lt _ (omega arith)) ∙ mod_shift p.ring.first k d

turns_count : (d k : ℕ) (p : Place) → k ≤ p.ring.count → (times (place_again d) k p).ring.count ≡ p.ring.count
unfolding times
turns_count d zero p h = refl
turns_count d (suc k) p h = turns_count d k (place_again d p) (omega arith) ∙ omega arith

pub clock_place : Clock-place
unfolding place outgoing stored
clock_place s x z a h =
    let c = s.board.core in
    let d = depth s.board in
    let n = group_size s.board in
    let good = (stands_fit s (refusal_stands s (signal x) tt z)).good in
    let enough : n ≤ s.board.ring.count = rw stored_length at h.enough in
    let r = clock_ran s x z a h in
    let p' = place_of (step s (signal x)).state in
    let open_places : ¬ Closed c → p' ≡ times (place_leave d) n (place_of s) = λ k. r.places ∙ ap (λ (op : Op). place d op (place_of s)) (outgoing_open c n k) in
    let closed_places : Closed c → p' ≡ times (place_again d) n (place_of s) = λ k. r.places ∙ ap (λ (op : Op). place d op (place_of s)) (outgoing_closed c n k) in
    rw r.moved (record {
      first = ap (λ (p : Place). p.ring.first) r.places
          ∙ either (λ (op : Op). (place d op (place_of s)).ring.first ≡ (s.board.ring.first + n) % d) (closed c)
          (turns_first d n (place_of s) good.first_lt) (leaves_first d n (place_of s) good.first_lt);
      fewer = λ k. ap (λ (p : Place). p.ring.count + n) (open_places k) ∙ leaves_count d n (place_of s) enough;
      same = λ k. ap (λ (p : Place). p.memory) (open_places k) ∙ leaves_memory d n (place_of s);
      as_many = λ k. ap (λ (p : Place). p.ring.count) (closed_places k) ∙ turns_count d n (place_of s) enough;
      again = λ k i l. ap (λ (p : Place). get_or p.memory (onward d (place_of s) i) 0) (closed_places k) ∙ turns_again d n (place_of s) i good enough l;
      beside = λ k j far. ap (λ (p : Place). get_or p.memory j 0) (closed_places k) ∙ turns_others d n (place_of s) j enough far;
    })
