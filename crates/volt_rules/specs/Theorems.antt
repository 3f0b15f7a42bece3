-- What a client who wires protection may rely on. Of a session file s over a sample memory m:
--   LastPowerUp s m     the last power-up that is accepted, with the events before it and after it
--   level_since p k n    the level of the channel k right after that power-up (n = 0), and after n of the later events
--   ChannelVolts        three numbers are the exact volts of the lowest, the highest and the last level of a channel
--   Volts-played        a table that is not refused has these, of all twenty channels, since the last accepted power-up
use Rattle.std.specs.Prelude.{ℕ, ◌≤◌, ◌<◌, ◌≡◌, List, ◌∷◌, ◌++◌, length, get_or, take}
use Rattle.rules.specs.declared.Settings.{Settings}
use Rattle.rules.specs.declared.Event.{Event}
use Rattle.rules.specs.declared.Event.TheVariants.{PowerUp as power_up}
use Rattle.rules.specs.Record.{start}
use Rattle.rules.specs.Step.{step}
use Rattle.rules.specs.Session.{after}
use Rattle.laws.specs.Moved.{level_at}
use Rattle.file_rules.specs.Item.{File}
use Rattle.file_rules.specs.File.{session}
use Rattle.volt_rules.specs.declared.Extremes.{Extremes}
use Rattle.volt_rules.specs.Table.{table_refusal, table_channels}
use Rattle.volt_rules.specs.Laws.{Exact, UpAccepted, NoneAccepted, zeros, Factor}

-- ---- Since when

-- 02: "another accepted power-up starts afresh": one that is accepted, and after which no other is
pub record LastPowerUp (s m : List ℕ) : Type 0 where
  pub before : List Event
  pub settings : Settings
  pub later : List Event
  pub events : (session s).events ≡ before ++ (power_up settings ∷ later)
  pub accepted : UpAccepted (after (start m) before) settings
  pub no_other : NoneAccepted (step (after (start m) before) (power_up settings)).state later

-- 02: "Levels right after an accepted power-up and after each later event count"
abbrev pub level_since : {s m : List ℕ} → LastPowerUp s m → ℕ → ℕ → ℕ
level_since {m} p k n = level_at (after (start m) (p.before ++ (power_up p.settings ∷ take n p.later))) k

-- ---- Three numbers

-- 02: "lowest, highest, last", of a channel whose levels are `level 0` to `level n`; `Exact` is 02's "exact", times 5, 10 or 20
pub record ChannelVolts (times : ℕ) (level : ℕ → ℕ) (n : ℕ) (x : Extremes) : Type 0 where
  -- when the lowest and the highest are there
  pub lowest_at : ℕ
  pub highest_at : ℕ
  pub lowest_since : lowest_at ≤ n
  pub highest_since : highest_at ≤ n
  pub lowest : Exact times (level lowest_at) x.lowest
  pub highest : Exact times (level highest_at) x.highest
  pub last : Exact times (level n) x.last
  -- and at no time does the level lie outside
  pub between : (j : ℕ) → j ≤ n → (level lowest_at ≤ level j) × (level j ≤ level highest_at)

-- ---- From a file to its volts

pub record VoltsPlayed (s m : List ℕ) : Type 0 where
  pub whole : (session s).end ≡ File
  -- there is such a power-up, and only one
  pub since : LastPowerUp s m
  pub only : (p q : LastPowerUp s m) → (p.before ≡ q.before) × (p.settings ≡ q.settings) × (p.later ≡ q.later)
  -- "5, 10 or 20 for range 0, 1, 2": its range is one of them
  pub factor : (p : LastPowerUp s m) → (times : ℕ) × Factor p.settings.range times
  pub twenty : length (table_channels s m) ≡ 20
  pub each : (p : LastPowerUp s m) (times k : ℕ)
      → Factor p.settings.range times
      → k < 20
      → ChannelVolts times (level_since p k) (length p.later) (get_or (table_channels s m) k zeros)

abbrev pub Volts-played : Type 0
Volts-played = (s m : List ℕ) → table_refusal s m ≡ 0 → VoltsPlayed s m
