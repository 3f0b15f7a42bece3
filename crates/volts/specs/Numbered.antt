-- The answer of code in document 02's numbers: the refusal number, and a record for each channel.
--   volt_refusal_number why   by which number a session is refused
--   table_of r                that number, 0 where there is none, and the channels
use Rattle.std.specs.Prelude.{ℕ, Result, Ok, Err, List, replicate}
use Rattle.file_rules.specs.File.{fault_number}
use Rattle.volt_rules.specs.declared.Extremes.{Extremes}
use Rattle.volt_rules.specs.Laws.{zeros}
use Rattle.volts.specs.declared.refusal.VoltRefusal.{VoltRefusal}
use Rattle.volts.specs.declared.refusal.VoltRefusal.TheVariants.{File, NoPowerUp}

pub record Table : Type 0 where
  pub refusal : ℕ
  pub channels : List Extremes

-- 02: "18 when the session has no accepted power-up; file refusals 10 to 13 come first"
unfoldable pub volt_refusal_number : VoltRefusal → ℕ
volt_refusal_number (File why) = fault_number why
volt_refusal_number NoPowerUp = 18

-- "all of them return all zeros"
abbrev pub table_of : Result (List Extremes) VoltRefusal → Table
table_of (Ok xs) = record { refusal = 0; channels = xs }
table_of (Err why) = record { refusal = volt_refusal_number why; channels = replicate 20 zeros }
