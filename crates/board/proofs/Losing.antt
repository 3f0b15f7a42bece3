-- A load as the rules have it: the core, by the fate that `load` tells, and the whole play.
use Prim.Native.Nat.{ℕ, ◌≤◌}
use mathlib.Core.Path.{◌≡◌, refl, ap, ◌∙◌}
use mathlib.Core.Bool.{Bool, true, false, ◌||◌, or-false}
use mathlib.Core.List.{List}
use lib.Dec.{leb}
use Rattle.rules.specs.Parts.{with_lost}
use Rattle.rules.specs.Clocks.{Play, fate_number, closed}
use Rattle.rules.specs.Writes.{write_data}
use Rattle.rules.specs.Place.{place}
use Rattle.rules.proofs.Choice.{either}
use Rattle.moves.specs.declared.Stored.{Stored}
use Rattle.moves.specs.Ready.{Ready}
use Rattle.moves.specs.Does.{Does, ring_place}
use Rattle.moves.specs.Promises.{LoadsOne}
use Rattle.moves.proofs.Tested.{load_whole}
use Rattle.board.specs.Types.{Core, Ring}
use Rattle.board.specs.Parts.{lost_by}

or_true : (x : Bool) → x || true ≡ true
or_true true = refl
or_true false = refl

module _ (c : Core) (full : Bool) (v : ℕ) where
  -- the flag of what it was lost to is set, and no other
  load_core : lost_by (fate_number (write_data c full v).fate) c ≡ (write_data c full v).core
  unfolding write_data lost_by
  load_core =
      let ok : Play → Type 0 = λ p. lost_by (fate_number p.fate) c ≡ p.core in
      either ok (closed c) (λ i. with_lost (record { full = or-false c.lost.full i; closed = or_true c.lost.closed i }) c)
      (either ok full (λ i. with_lost (record { full = or_true c.lost.full i; closed = or-false c.lost.closed i }) c)
      (λ i. with_lost (record { full = or-false c.lost.full i; closed = or-false c.lost.closed i }) c))

  load_moved : 0 ≡ (write_data c full v).moved
  unfolding write_data
  load_moved = let ok : Play → Type 0 = λ p. 0 ≡ p.moved in either ok (closed c) refl (either ok full refl refl)

pub load_does : (c : Core) (size : ℕ) (ring : Ring) (d v : ℕ) (m : List ℕ) (r : Stored) (m' : List ℕ) (k : Core) → Ready d ring m → size ≤ d
    → LoadsOne c size ring d v m r m' → k ≡ lost_by (fate_number r.fate) c
    → Does d (write_data c (leb size ring.count) v) ring m (record { core = k; ring = r.ring; moved = 0; fate = r.fate }) m'
load_does c size ring d v m r m' k h s l e =
    let w = load_whole c size ring d v m h s in
    let fate = l.fate ∙ ap (λ (p : Play). fate_number p.fate) w in
    record {
      core = e ∙ ap (λ (n : ℕ). lost_by n c) fate ∙ load_core c (leb size ring.count) v;
      moved = load_moved c (leb size ring.count) v;
      fate = fate;
      ring = l.ring ∙ ap (λ (p : Play). (place d p.op (ring_place ring m)).ring) w;
      memory = l.memory ∙ ap (λ (p : Play). (place d p.op (ring_place ring m)).memory) w;
    }
