-- The table of a session: the refusal, and three numbers for each of the twenty channels.
--   table_refusal s m    the refusal number of the session file s over the sample memory m
--   table_channels s m   the twenty records
--   table_memory s m     the sample memory afterwards
use Rattle.std.specs.Prelude.{ℕ, zero, suc, cond, List, [], ◌∷◌, map, eqb, get_or, Float}
use Rattle.rules.specs.Record.{start}
use Rattle.rules.specs.Session.{after}
use Rattle.file_rules.specs.File.{session, verdict}
use Rattle.volt_rules.specs.declared.Extremes.{Extremes}
use Rattle.volt_rules.specs.Volts.{volts_of}
use Rattle.volt_rules.specs.Counting.{Counted, nothing_counted, counted}
use Rattle.volt_rules.specs.Extremes.{lowest_of, highest_of, last_of}

-- ---- A channel

-- the volts of the channel k each time that they count, the latest first
abbrev pub volts_at : ℕ → Counted → List Float
volts_at k w = map (λ (levels : List ℕ). volts_of w.range (get_or levels k 0)) w.levels

abbrev pub extremes_of : List Float → Extremes
extremes_of vs = record { lowest = lowest_of vs; highest = highest_of vs; last = last_of vs }

unfoldable pub channel : Counted → ℕ → Extremes
channel w k = extremes_of (volts_at k w)

-- ---- Twenty of them

-- n channels from the channel k on
unfoldable pub channels_from : ℕ → ℕ → Counted → List Extremes
channels_from zero k w = []
channels_from (suc n) k w = channel w k ∷ channels_from n (suc k) w

-- 02: "one record per channel". 01 keeps twenty levels, whichever channels are fitted. Where nothing counted, all are zeros.
abbrev pub channels_of : Counted → List Extremes
channels_of w = channels_from 20 0 w

-- ---- A session

-- what counts in a session file, run from the unpowered record over the sample memory m
unfoldable pub counted_in : List ℕ → List ℕ → Counted
counted_in s m = counted nothing_counted (start m) (session s).events

-- 02: "18 when the session has no accepted power-up"
abbrev pub power_refusal : List (List ℕ) → ℕ
power_refusal [] = 18
power_refusal (x ∷ xs) = 0

-- 02: "file refusals 10 to 13 come first"
unfoldable pub table_refusal : List ℕ → List ℕ → ℕ
table_refusal s m =
    let file : ℕ = (verdict (session s).end).number in
    cond (eqb file 0) (power_refusal (counted_in s m).levels) file

-- 02: "all of them return all zeros"
unfoldable pub table_channels : List ℕ → List ℕ → List Extremes
table_channels s m = channels_of (cond (eqb (table_refusal s m) 0) (counted_in s m) nothing_counted)

-- 02: "The sample memory is as the run left it", also where the session is refused
abbrev pub table_memory : List ℕ → List ℕ → List ℕ
table_memory s m = (after (start m) (session s).events).memory
