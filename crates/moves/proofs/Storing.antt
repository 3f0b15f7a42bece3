-- What a load comes to, by its fate: stored at the place after the last value, or lost with nothing changed.
use Prim.Native.Nat.{ℕ, ◌+◌, ◌%◌}
use mathlib.Core.Path.{◌≡◌, refl, ap, ◌∙◌}
use mathlib.Core.Logic.{◌≢◌}
use mathlib.Core.Bool.{Bool, true, false, cond}
use mathlib.Core.List.{List}
use lib.Dec.{leb}
use lib.ListN.{length, set}
use Rattle.rules.specs.declared.Core.{Core}
use Rattle.rules.specs.declared.Ring.{Ring}
use Rattle.rules.specs.Record.{value_span}
use Rattle.rules.specs.Parts.{with_lost}
use Rattle.rules.specs.Clocks.{Play, keep, store, fate_number, only, closed}
use Rattle.rules.specs.declared.Fate.TheVariants.{Stored as was_stored, LostToFull as lost_to_full, LostToClosed as lost_to_closed}
use Rattle.rules.specs.Writes.{write_data}
use Rattle.rules.specs.Place.{place}
use Rattle.moves.specs.declared.Stored.{Stored}
use Rattle.moves.specs.Ready.{can_load, fate_of}
use Rattle.moves.specs.Does.{ring_place}
use Rattle.moves.specs.Promises.{LoadsOne}
use Rattle.rules.proofs.Numbered.{same_fate}
use Rattle.moves.proofs.Tested.{Fitting}

module _ (c : Core) (size : ℕ) (ring : Ring) (d v : ℕ) (m : List ℕ) (r : Stored) (m' : List ℕ) where
  pub stored_loaded : Fitting c size ring d m → r.fate ≡ was_stored → r.ring ≡ record { first = ring.first; count = ring.count + 1 }
      → m' ≡ set m ((ring.first + ring.count) % d) (v % value_span) → LoadsOne c size ring d v m r m'
  unfolding write_data place
  stored_loaded f e p q =
      record {
        fate = rw (f.can, f.unclosed, f.unfull) (ap fate_number e);
        ring = rw (f.can, f.unclosed, f.unfull) p;
        memory = rw (f.can, f.unclosed, f.unfull) q;
      }

  -- what the rules make of it, p, agrees with the number n
  abbrev Agrees : ℕ → Play → Type 0
  Agrees n p =
      fate_number r.fate ≡ n
      → n ≢ 1
      → (fate_number r.fate ≡ fate_number p.fate) × (r.ring ≡ (place d p.op (ring_place ring m)).ring) × (m' ≡ (place d p.op (ring_place ring m)).memory)

  pub lost_loaded : r.ring ≡ ring → m' ≡ m → fate_number r.fate ≡ fate_of c size ring d (length m) → r.fate ≢ was_stored → LoadsOne c size ring d v m r m'
  unfolding fate_of write_data place
  lost_loaded p q e n = let w = go (can_load size ring d (length m)) (closed c) (leb size ring.count) e (λ one. n (same_fate r.fate was_stored (e ∙ one))) in record { fate = w.0; ring = w.1; memory = w.2 }
    where
      go : (t u w : Bool) → Agrees (cond t (cond u 3 (cond w 2 1)) 0)
          (cond t
          (cond u (record { core = with_lost (record { full = c.lost.full; closed = true }) c; op = keep; moved = 0; fate = lost_to_closed })
          (cond w (record { core = with_lost (record { full = true; closed = c.lost.closed }) c; op = keep; moved = 0; fate = lost_to_full })
          (record { core = c; op = store (v % value_span); moved = 0; fate = was_stored })))
          (only c))
      go true true w e n = (e, p, q)
      go true false true e n = (e, p, q)
      go true false false e n = absurd (n refl)
      go false u w e n = (e, p, q)
