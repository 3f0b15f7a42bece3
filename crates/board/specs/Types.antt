-- The types of `rules` under one roof, the events by lower-case names.
pub use Rattle.rules.specs.declared.Settings.{Settings}
pub use Rattle.rules.specs.declared.Signal.{Signal}
pub use Rattle.rules.specs.declared.Signal.TheVariants.{Tick as tick, Outside as outside, Trigger as trigger}
pub use Rattle.rules.specs.declared.Signal.TheVariants.{Passed as passed, Failed as failed, Settled as settled}
pub use Rattle.rules.specs.declared.Event.{Event}
pub use Rattle.rules.specs.declared.Event.TheVariants.{PowerUp as power_up, Write as write, Read as read, Signal as signal}
pub use Rattle.rules.specs.Types.{Answer}
pub use Rattle.rules.specs.Rates.{Figures}
pub use Rattle.rules.specs.declared.Options.{Options}
pub use Rattle.rules.specs.declared.Size.{Size}
pub use Rattle.rules.specs.declared.Control.{Control}
pub use Rattle.rules.specs.declared.Mode.{Mode}
pub use Rattle.rules.specs.declared.Calibration.{Calibration}
pub use Rattle.rules.specs.declared.Clock.{Clock}
pub use Rattle.rules.specs.declared.Burst.{Burst}
pub use Rattle.rules.specs.declared.Load.{Load}
pub use Rattle.rules.specs.declared.Lost.{Lost}
pub use Rattle.rules.specs.declared.Outputs.{Outputs}
pub use Rattle.rules.specs.declared.Core.{Core}
pub use Rattle.rules.specs.declared.Ring.{Ring}
pub use Rattle.rules.specs.declared.Board.{Board}
