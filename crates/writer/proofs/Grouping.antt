-- What the loop over the channels of a group keeps, as it writes their loads.
use Prim.Native.Nat.{ℕ, ◌+◌, ◌*◌, ◌≤◌, ◌<◌}
use mathlib.Core.Path.{◌≡◌, sym, ap}
use mathlib.Core.List.{List, [], ◌∷◌}
use native.Mathlib.Omega.{arith}
use lib.ListN.{length, get_or}
use Rattle.laws.specs.Moved.{Among}
use Rattle.laws.proofs.Among.{among_head, among_tail}
use Rattle.file_rules.specs.Pieces.{Piece}
use Rattle.file_rules.proofs.Joined.{then, renamed, piece_length}
use Rattle.writer.specs.Cutting.{picked, load_record, load_records}
use Rattle.writer.proofs.NoBytes.{none_left}

-- Of the channels ks those of `left` are still to be loaded. With their loads, those of all are written from to₀ on.
pub record Grouping (xs ks : List ℕ) (end : ℕ) (out₀ : List ℕ) (to₀ : ℕ) (out : List ℕ) (at : ℕ) (left : List ℕ) : Type 0 where
  pub small : (j : ℕ) → Among j left → j < 20
  pub inside : (j : ℕ) → Among j left → j < length xs
  pub room : at + 8 * length left ≤ length out
  pub whole : (o : List ℕ) (p : ℕ) → Piece out at (load_records end at (picked xs left)) o p → Piece out₀ to₀ (load_records end to₀ (picked xs ks)) o p

module _ {xs ks : List ℕ} {end : ℕ} {out₀ : List ℕ} {to₀ : ℕ} {out : List ℕ} {at : ℕ} {left : List ℕ}
    (s : Grouping xs ks end out₀ to₀ out at left) where
  -- one comes
  module _ (k : ℕ) (rest : List ℕ) (e : left ≡ k ∷ rest) where
    pub load_inside : k < length xs
    load_inside = s.inside k (rw e (among_head k rest))

    pub channel_small : k < 20
    channel_small = s.small k (rw e (among_head k rest))

    pub load_fits : at + 8 ≤ length out
    load_fits = omega (arith, s.room, ap length e)

    pub grouping_next : (out' : List ℕ) (at' : ℕ) → Piece out at (load_record end at (get_or xs k 0)) out' at' → Grouping xs ks end out₀ to₀ out' at' rest
    unfolding load_records
    grouping_next out' at' p =
        record {
          small = λ j h. s.small j (rw e (among_tail j k rest h));
          inside = λ j h. s.inside j (rw e (among_tail j k rest h));
          room = omega (arith, s.room, ap length e, piece_length p, p.place);
          whole = λ o q r.
              s.whole o q
              (renamed (sym (ap (λ (ks : List ℕ). load_records end at (picked xs ks)) e))
              (then p (renamed (ap (λ (n : ℕ). load_records end n (picked xs rest)) p.place) r)));
        }

  -- none is left
  pub grouping_over : left ≡ [] → Piece out₀ to₀ (load_records end to₀ (picked xs ks)) out at
  unfolding load_records
  grouping_over e = s.whole out at (none_left (ap (λ (ks : List ℕ). load_records end at (picked xs ks)) e))
