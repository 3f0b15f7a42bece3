-- The structs and enums of src/lib.rt under one roof, the events by lower-case names; and the four numbers of an answer.
use Rattle.std.specs.Prelude.{ℕ}
pub use Rattle.rules.specs.declared.Settings.{Settings}
pub use Rattle.rules.specs.declared.Signal.{Signal}
pub use Rattle.rules.specs.declared.Signal.TheVariants.{Tick as tick, Outside as outside, Trigger as trigger}
pub use Rattle.rules.specs.declared.Signal.TheVariants.{Passed as passed, Failed as failed, Settled as settled}
pub use Rattle.rules.specs.declared.Event.{Event}
pub use Rattle.rules.specs.declared.Event.TheVariants.{PowerUp as power_up, Write as write, Read as read, Signal as signal}
pub use Rattle.rules.specs.declared.Refusal.{Refusal}
pub use Rattle.rules.specs.declared.Fate.{Fate}
pub use Rattle.rules.specs.declared.Fate.TheVariants.{NoLoad as none, Stored as was_stored, LostToFull as lost_to_full, LostToClosed as lost_to_closed}
pub use Rattle.rules.specs.declared.Done.{Done}
pub use Rattle.rules.specs.declared.Frequencies.{Frequencies}
pub use Rattle.rules.specs.declared.Options.{Options}
pub use Rattle.rules.specs.declared.Size.{Size}
pub use Rattle.rules.specs.declared.Control.{Control}
pub use Rattle.rules.specs.declared.Mode.{Mode}
pub use Rattle.rules.specs.declared.Calibration.{Calibration}
pub use Rattle.rules.specs.declared.Clock.{Clock}
pub use Rattle.rules.specs.declared.Burst.{Burst}
pub use Rattle.rules.specs.declared.Load.{Load}
pub use Rattle.rules.specs.declared.Lost.{Lost}
pub use Rattle.rules.specs.declared.Outputs.{Outputs}
pub use Rattle.rules.specs.declared.Core.{Core}
pub use Rattle.rules.specs.declared.Ring.{Ring}
pub use Rattle.rules.specs.declared.Board.{Board}

-- 01: "Each event answers: refusal number; register value (0 unless a read); values moved (0 to 20); load fate (0 none, 1 stored, 2 lost to
-- full, 3 lost to closed)."
pub record Answer : Type 0 where
  pub refusal : ℕ
  pub register : ℕ
  pub moved : ℕ
  pub fate : ℕ
