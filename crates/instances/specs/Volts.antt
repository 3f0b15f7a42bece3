-- Session files that meet the premises of the theorem and of the laws, and what these say of them in plain numbers.
--   Volts-met       Volts-played, of a file with all that can happen, and of a power-up alone
--   Volt-laws-met   the laws of Laws.antt
use Rattle.std.specs.Prelude.{ℕ, ◌≡◌, ◌⊎◌, true, false, List, [], ◌∷◌, ◌++◌, map, length, get_or, replicate, Float}
use Rattle.std.specs.Float.Ieee.{le}
use Rattle.std.specs.Float.Ieee.Exact.{HasValue}
use Rattle.rules.specs.declared.Settings.{Settings}
use Rattle.rules.specs.declared.Event.{Event}
use Rattle.rules.specs.declared.Event.TheVariants.{Read as read}
use Rattle.rules.specs.Record.{start}
use Rattle.rules.specs.Step.{Outcome}
use Rattle.rules.specs.Session.{outcomes, after}
use Rattle.rules.specs.Bench.{mask, bor, load, clk}
use Rattle.rules.specs.Examples.{up as power_up}
use Rattle.file_rules.specs.Item.{File}
use Rattle.file_rules.specs.File.{session, verdict}
use Rattle.volt_rules.specs.declared.Extremes.{Extremes}
use Rattle.volt_rules.specs.Volts.{volts_of, zero_volts}
use Rattle.volt_rules.specs.Counting.{nothing_counted, counted}
use Rattle.volt_rules.specs.Table.{table_refusal, table_channels}
use Rattle.volt_rules.specs.Laws.{UpAccepted, zeros, Factor}
use Rattle.volt_rules.specs.FileTables.{junk, two_power_ups, one_level, back_again, not_powered}
use Rattle.volt_rules.specs.Theorems.{LastPowerUp}

-- ---- The file

-- the smallest board, in a range
abbrev pub board_in : ℕ → Settings
board_in n = record { fitted = 0; range = n; filter = 0; kit = 0; firmware = 0 }

-- the events of `two_power_ups` before the last power-up that is accepted, and those after it
abbrev pub events_before : List Event
events_before = power_up 0 2 0 0 0 ∷ bor 0x20 ∷ load 0 ∷ clk ∷ []

abbrev pub events_later : List Event
events_later =
    mask 3 ∷ load 0x4000 ∷ load 0x9000 ∷ load 0xE000 ∷ bor 0x120 ∷ load 0
    ∷ clk ∷ power_up 0 3 0 0 0 ∷ clk ∷ clk ∷ read 0x20 ∷ clk ∷ clk ∷ clk ∷ []

abbrev pub outcomes_in : List ℕ → List Outcome
outcomes_in s = outcomes (start junk) (session s).events

abbrev pub volts_on : List ℕ → ℕ → Extremes
volts_on s k = get_or (table_channels s junk) k zeros

-- ---- Plain numbers

-- x is n / 65,536 volts, above zero or below it; 0 is above
abbrev pub VoltsAbove : ℕ → Float → Type 0
VoltsAbove n x = HasValue x false n 65536

abbrev pub VoltsBelow : ℕ → Float → Type 0
VoltsBelow n x = HasValue x true n 65536

abbrev pub AllZero : Extremes → Type 0
AllZero x = VoltsAbove 0 x.lowest × VoltsAbove 0 x.highest × VoltsAbove 0 x.last

-- a power-up alone, in a range
abbrev pub power_up_alone : ℕ → List ℕ
power_up_alone range = 0x01 ∷ 0x00 ∷ 0x07 ∷ 0x01 ∷ 0x00 ∷ range ∷ 0x00 ∷ 0x00 ∷ 0x00 ∷ 0x00 ∷ []

-- ---- Volts-played

pub record Volts-met : Type 0 where
  -- the third power-up is refused by its range (14), and the unknown offset (4); the fourth value is lost to the closed buffer (3)
  pub refusals : map (λ (o : Outcome). o.answer.refusal) (outcomes_in two_power_ups)
      ≡ 0 ∷ 0 ∷ 0 ∷ 0 ∷ 0 ∷ 0 ∷ 0 ∷ 0 ∷ 0 ∷ 0 ∷ 0 ∷ 0 ∷ 14 ∷ 0 ∷ 0 ∷ 4 ∷ 0 ∷ 0 ∷ 0 ∷ []
  pub fates : map (λ (o : Outcome). o.answer.fate) (outcomes_in two_power_ups)
      ≡ 0 ∷ 0 ∷ 1 ∷ 0 ∷ 0 ∷ 0 ∷ 1 ∷ 1 ∷ 1 ∷ 0 ∷ 3 ∷ 0 ∷ 0 ∷ 0 ∷ 0 ∷ 0 ∷ 0 ∷ 0 ∷ 0 ∷ []
  pub refusal : table_refusal two_power_ups junk ≡ 0
  -- the premises of `each`: the second power-up is the last that is accepted
  pub power : LastPowerUp two_power_ups junk
  pub before : power.before ≡ events_before
  pub settings : power.settings ≡ board_in 1
  pub later : power.later ≡ events_later
  -- what the theorem says
  pub whole : (session two_power_ups).end ≡ File
  pub since : LastPowerUp two_power_ups junk
  pub only : (since.before ≡ events_before) × (since.settings ≡ board_in 1) × (since.later ≡ events_later)
  pub factor : Factor 1 10
  pub twenty : length (table_channels two_power_ups junk) ≡ 20
  -- on channel 0 both are reached between the first level and the last: 2.5 volts below zero and 3.75 above, then 0.625
  pub lowest : VoltsBelow 163840 (volts_on two_power_ups 0).lowest
  pub highest : VoltsAbove 245760 (volts_on two_power_ups 0).highest
  pub last : VoltsAbove 40960 (volts_on two_power_ups 0).last
  -- on channel 1 the highest is reached by the last event
  pub highest_last : VoltsAbove 245760 (volts_on two_power_ups 1).highest × VoltsAbove 245760 (volts_on two_power_ups 1).last
  -- on channel 19, which is not fitted, nothing moves
  pub unmoved : AllZero (volts_on two_power_ups 19)
  -- a power-up alone, in each range: its own levels count, and no other
  pub alone : AllZero (volts_on (power_up_alone 0) 0) × AllZero (volts_on (power_up_alone 1) 0) × AllZero (volts_on (power_up_alone 2) 0)

-- ---- The laws

-- a file that ends inside a record, behind an accepted power-up and a level
abbrev pub ends_inside : List ℕ
ends_inside = one_level ++ (0x00 ∷ [])

-- the levels of an untouched board, and with 9000h on channel 0
abbrev pub all_midrange : List ℕ
all_midrange = replicate 20 0x8000

abbrev pub one_moved : List ℕ
one_moved = 0x9000 ∷ replicate 19 0x8000

pub record Volt-laws-met : Type 0 where
  -- Volts-exact, a step below 8000h and above it, the lowest level and the highest
  pub step_below : VoltsBelow 5 (volts_of 0 0x7FFF) × VoltsBelow 10 (volts_of 1 0x7FFF) × VoltsBelow 20 (volts_of 2 0x7FFF)
  pub step_above : VoltsAbove 5 (volts_of 0 0x8001) × VoltsAbove 10 (volts_of 1 0x8001) × VoltsAbove 20 (volts_of 2 0x8001)
  pub lowest_level : VoltsBelow 163840 (volts_of 0 0) × VoltsBelow 327680 (volts_of 1 0) × VoltsBelow 655360 (volts_of 2 0)
  pub highest_level : VoltsAbove 163835 (volts_of 0 0xFFFF) × VoltsAbove 327670 (volts_of 1 0xFFFF) × VoltsAbove 655340 (volts_of 2 0xFFFF)
  -- Counts-since: what counted before is gone, and so is the first range
  pub counts_since : counted (record { range = 2; levels = (7 ∷ []) ∷ [] }) (start junk)
      (events_before ++ (power_up 0 1 0 0 0 ∷ load 0x9000 ∷ bor 0x20 ∷ clk ∷ []))
      ≡ record { range = 1; levels = one_moved ∷ all_midrange ∷ all_midrange ∷ all_midrange ∷ [] }
  -- Counts-none: the only power-up is refused
  pub counts_none : counted nothing_counted (start junk) (power_up 0 3 0 0 0 ∷ clk ∷ []) ≡ nothing_counted
  -- Table-exactly, from what 02 says to the number ..
  pub told_0 : table_refusal one_level junk ≡ 0
  pub told_18 : table_refusal not_powered junk ≡ 18
  pub told_11 : table_refusal ends_inside junk ≡ 11
  -- .. and from the number to what 02 says
  pub from_0 : ((session one_level).end ≡ File) × ((before : List Event) × (x : Settings) × UpAccepted (after (start junk) before) x)
  pub from_18 : ((session not_powered).end ≡ File) × (¬ UpAccepted (start junk) (board_in 3))
  pub from_11 : (verdict (session ends_inside).end).number ≡ 11
  -- Table-refused
  pub zeros_18 : table_channels not_powered junk ≡ replicate 20 zeros
  pub zeros_11 : table_channels ends_inside junk ≡ replicate 20 zeros
  -- Table-bounds: of the volts of a power-up alone, each is what it can only be ..
  pub alone_lowest : (volts_on (power_up_alone 0) 0).lowest ≡ zero_volts
  pub alone_highest : (volts_on (power_up_alone 0) 0).highest ≡ zero_volts
  pub alone_inside : (le (volts_on (power_up_alone 0) 0).lowest zero_volts ≡ true) × (le zero_volts (volts_on (power_up_alone 0) 0).highest ≡ true)
  pub alone_last : (volts_on (power_up_alone 0) 0).last ≡ zero_volts
  -- .. and of the file with two, 8000h lies between too
  pub ordered : (le (volts_on two_power_ups 0).lowest (volts_on two_power_ups 0).last ≡ true)
      × (le (volts_on two_power_ups 0).last (volts_on two_power_ups 0).highest ≡ true)
  pub around : (le (volts_on two_power_ups 0).lowest zero_volts ≡ true) × (le zero_volts (volts_on two_power_ups 0).highest ≡ true)
  -- Table-exact: where only 8000h and 5432h counted, each of the three is the volts of one of them
  pub exact_lowest : VoltsBelow 112140 (volts_on one_level 0).lowest ⊎ VoltsAbove 0 (volts_on one_level 0).lowest
  pub exact_highest : VoltsBelow 112140 (volts_on one_level 0).highest ⊎ VoltsAbove 0 (volts_on one_level 0).highest
  pub exact_last : VoltsBelow 112140 (volts_on one_level 0).last ⊎ VoltsAbove 0 (volts_on one_level 0).last
  -- Zero-positive: it came back from below; it was never left; and of a refused session, past the twenty channels
  pub zero_last : (volts_on back_again 0).last ≡ zero_volts
  pub zero_highest : (volts_on back_again 0).highest ≡ zero_volts
  pub zero_lowest : (volts_on back_again 19).lowest ≡ zero_volts
  pub zero_refused : (volts_on not_powered 20).lowest ≡ zero_volts
