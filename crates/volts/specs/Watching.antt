-- A table as the loop holds it, and what an event makes of it.
--   held o                 the channels that the loop holds, where they count
--   seen_of w              the three numbers of each channel, of what counted so far; none where nothing did
--   watched fresh b w      what counts when an event has left b; `fresh` says that it is an accepted power-up
--   at_once v, entered x v a channel's three numbers, when it has the volts v: right after an accepted power-up, and later
use Rattle.std.specs.Prelude.{ℕ, ◌<◌, ◌≡◌, Bool, false, cond, List, [], ◌∷◌, length, get_or, Float, Option, Some, None}
use Rattle.std.specs.Float.{nan}
use Rattle.rules.specs.declared.Board.{Board}
use Rattle.volt_rules.specs.declared.Extremes.{Extremes}
use Rattle.volt_rules.specs.Volts.{volts_of}
use Rattle.volt_rules.specs.Counting.{Counted, freshly, also}
use Rattle.volt_rules.specs.Extremes.{lesser, greater}
use Rattle.volt_rules.specs.Table.{channels_of, power_refusal}
use Rattle.volts.specs.declared.running.Observed.{Observed}

-- what the checker takes for an element past the end
abbrev pub no_channel : Extremes
no_channel = record { lowest = nan; highest = nan; last = nan }

abbrev pub at_once : Float → Extremes
at_once v = record { lowest = v; highest = v; last = v }

abbrev pub entered : Extremes → Float → Extremes
entered x v = record { lowest = lesser x.lowest v; highest = greater x.highest v; last = v }

-- the twenty channels, when the record after an event has this range and these levels: right after an accepted power-up
pub record AllStarted (range : ℕ) (levels : List ℕ) (r : List Extremes) : Type 0 where
  pub twenty : length r ≡ 20
  pub each : (k : ℕ) → k < 20 → get_or r k no_channel ≡ at_once (volts_of range (get_or levels k 0))

-- and later, where they were ts
pub record AllEntered (ts : List Extremes) (range : ℕ) (levels : List ℕ) (r : List Extremes) : Type 0 where
  pub twenty : length r ≡ 20
  pub each : (k : ℕ) → k < 20 → get_or r k no_channel ≡ entered (get_or ts k no_channel) (volts_of range (get_or levels k 0))

abbrev pub held : Observed → Option (List Extremes)
held o = cond o.counts (Some o.channels) None

abbrev pub seen_from : ℕ → List (List ℕ) → Option (List Extremes)
seen_from r [] = None
seen_from r (x ∷ xs) = Some (channels_of (record { range = r; levels = x ∷ xs }))

abbrev pub seen_of : Counted → Option (List Extremes)
seen_of w = seen_from w.range w.levels

abbrev pub watched : Bool → Board → Counted → Counted
watched fresh b w = cond fresh (freshly b) (record { range = w.range; levels = also b.core.outputs.levels w.levels })

-- where something counted, it was in the range that the record has
abbrev pub SameRange : Counted → Board → Type 0
SameRange w b = power_refusal w.levels ≡ 0 → b.core.options.range ≡ w.range

-- whatever counted before: r is the table when an event has left b
abbrev pub Watched : Bool → Board → Option (List Extremes) → Option (List Extremes) → Type 0
Watched fresh b t r = (w : Counted) → t ≡ seen_of w → (fresh ≡ false → SameRange w b) → r ≡ seen_of (watched fresh b w)
