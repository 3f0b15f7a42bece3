-- What an outcome has to do with a play of the rules.
--   Does d p at m r m'    the outcome r, with the memory m', is what the rules' play p makes of the ring `at` and the memory m
--   ring_values d ring m   the values of a ring in order
use Rattle.std.specs.Prelude.{ℕ, ◌≡◌, List}
use Rattle.rules.specs.declared.Ring.{Ring}
use Rattle.moves.specs.declared.Played.{Played}
use Rattle.rules.specs.Record.{values}
use Rattle.rules.specs.Clocks.{Play, fate_number}
use Rattle.rules.specs.Place.{Place, place}

abbrev pub ring_place : Ring → List ℕ → Place
ring_place ring m = record { ring = ring; memory = m }

pub record Does (d : ℕ) (p : Play) (at : Ring) (m : List ℕ) (r : Played) (m' : List ℕ) : Type 0 where
  pub core : r.core ≡ p.core
  pub moved : r.moved ≡ p.moved
  pub fate : fate_number r.fate ≡ fate_number p.fate
  pub ring : r.ring ≡ (place d p.op (ring_place at m)).ring
  pub memory : m' ≡ (place d p.op (ring_place at m)).memory

abbrev pub ring_values : ℕ → Ring → List ℕ → List ℕ
ring_values d ring m = values d ring.first ring.count m
