-- Values given to channels one after the other, as the code does it.
--   deal_one   the value at the front goes to the channel k; it leaves, or leaves and is stored again
--   deal_all   one to each channel of a list, as far as there are any
use Rattle.std.specs.Prelude.{ℕ, ◌%◌, Bool, true, false, cond, ◌||◌, List, [], ◌∷◌, eqb, get_or, set}
use Rattle.rules.specs.declared.Ring.{Ring}
use Rattle.rules.specs.Bits.{bit}
use Rattle.rules.specs.Record.{value_span}
use Rattle.rules.specs.Clocks.{coded}
use Rattle.rules.specs.Place.{Place, place_leave, place_again}
use Rattle.moves.specs.Does.{ring_place}

-- the levels, the ring, whether a value that left carried EOF, and the memory
pub record Dealing : Type 0 where
  pub levels : List ℕ
  pub ring : Ring
  pub ended : Bool
  pub memory : List ℕ

abbrev pub dealing : List ℕ → Ring → Bool → List ℕ → Dealing
dealing levels ring ended m = record { levels = levels; ring = ring; ended = ended; memory = m }

abbrev pub front : Dealing → ℕ
front s = get_or s.memory s.ring.first 0 % value_span

abbrev pub place_passed : Bool → ℕ → Place → Place
place_passed true d p = place_again d p
place_passed false d p = place_leave d p

abbrev pub place_now : Dealing → Place
place_now s = ring_place s.ring s.memory

unfoldable pub deal_one : Bool → Bool → ℕ → ℕ → Dealing → Dealing
deal_one binary again d k s =
    record {
      levels = set s.levels k (coded binary (front s));
      ring = (place_passed again d (place_now s)).ring;
      ended = s.ended || bit 16 (front s);
      memory = (place_passed again d (place_now s)).memory;
    }

unfoldable pub deal_all : Bool → Bool → ℕ → List ℕ → Dealing → Dealing
deal_all binary again d [] s = s
deal_all binary again d (k ∷ ks) s = cond (eqb s.ring.count 0) s (deal_all binary again d ks (deal_one binary again d k s))
