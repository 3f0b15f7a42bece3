-- Any two outcomes that a promise allows are equal.
use mathlib.Core.Path.{sym, ◌∙◌}
use Rattle.bridge.specs.Unique.{Called-one, RateCalled-one}

pub called_one : Called-one
called_one row memory event answer n n₂ r r₂ m m₂ a a₂ x y =
    (x.understood ∙ sym y.understood, x.row ∙ sym y.row, x.memory ∙ sym y.memory, x.answer ∙ sym y.answer)

pub rate_called_one : RateCalled-one
rate_called_one row figures n n₂ f f₂ x y = (x.understood ∙ sym y.understood, x.figures ∙ sym y.figures)
