-- Where the stored values stand in the sample memory (01, "The board record and its memory").
use Rattle.std.specs.Prelude.{ℕ, zero, suc, ◌+◌, ◌-◌, ◌%◌, List, get_or, set}
use Rattle.rules.specs.Types.{Ring}
use Rattle.rules.specs.Record.{State, value_span}
use Rattle.rules.specs.Clocks.{Op, keep, clear, store, leave, recirculate}

pub record Place : Type 0 where
  pub ring : Ring
  pub memory : List ℕ

abbrev pub place_of : State → Place
place_of s = record { ring = s.board.ring; memory = s.memory }

-- 01: "A value is stored at (first + count) mod depth."
abbrev pub place_store : ℕ → ℕ → Place → Place
place_store depth v p =
    record {
      ring = record { first = p.ring.first; count = p.ring.count + 1 };
      memory = set p.memory ((p.ring.first + p.ring.count) % depth) v;
    }

-- 01: "A leaving value moves first on by one, mod depth."
abbrev pub place_leave : ℕ → Place → Place
place_leave depth p =
    record {
      ring = record { first = (p.ring.first + 1) % depth; count = p.ring.count - 1 };
      memory = p.memory;
    }

-- 01: "A recirculated value leaves and is then stored."
abbrev pub place_again : ℕ → Place → Place
place_again depth p = place_store depth (get_or p.memory p.ring.first 0 % value_span) (place_leave depth p)

unfoldable pub times : (Place → Place) → ℕ → Place → Place
times f zero p = p
times f (suc k) p = times f k (f p)

-- 01: "Emptying sets both numbers to 0 and writes nothing."
unfoldable pub place : ℕ → Op → Place → Place
place depth keep p = p
place depth clear p = record { ring = record { first = 0; count = 0 }; memory = p.memory }
place depth (store v) p = place_store depth v p
place depth (leave k) p = times (place_leave depth) k p
place depth (recirculate k) p = times (place_again depth) k p
