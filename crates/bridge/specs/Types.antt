-- The types of `rules` that a call speaks of.
pub use Rattle.rules.specs.declared.Event.{Event}
pub use Rattle.rules.specs.declared.Event.TheVariants.{Signal as signal}
pub use Rattle.rules.specs.Types.{Answer}
pub use Rattle.rules.specs.Rates.{Figures}
pub use Rattle.rules.specs.declared.Board.{Board}
