-- The levels that a row of 55 numbers says: twenty, each from an entry of its own.
use Prim.Native.Nat.{ℕ, ◌+◌, ◌%◌, ◌<◌}
use mathlib.Core.Path.{◌≡◌, ◌∙◌, ap}
use mathlib.Core.List.{List}
use lib.ListN.{length, get_or, drop, take, length-map, length-take, length-drop, get_or-map}
use lib.Seq.{get_or-take, get_or-drop}
use Rattle.rules.specs.Record.{level_span}
use Rattle.rows.specs.Places as places
use Rattle.rows.specs.Reading.{at, levels_at}

pub row_levels_length : (row : List ℕ) → length row ≡ places.row_long → length (levels_at row) ≡ places.level_count
unfolding levels_at
row_levels_length row h = simp (length-map, length-take, length-drop, h)

pub levels_each : (row : List ℕ) (i : ℕ) → i < places.level_count → get_or (levels_at row) i 0 ≡ at row (places.levels + i) % level_span
unfolding levels_at
levels_each row i h =
    get_or-map (λ (x : ℕ). x % level_span) (take places.level_count (drop places.levels row)) i 0
    ∙ ap (λ (x : ℕ). x % level_span) (get_or-take places.level_count (drop places.levels row) i 0 h ∙ get_or-drop places.levels row i 0)
