-- std's test is the definition's.
use mathlib.Core.Path.{sym, ◌∙◌}
use Rattle.hex_text.proofs.Opens.{opened, unopened}
use Rattle.hex_text.proofs.marks.opening.Goals as goal

pub returns-then-starts_with : goal.returns-then-starts_with
returns-then-starts_with c = opened _ (sym c.starts_with.ensures.value ∙ c.if-starts_with.true)

pub returns-else-starts_with : goal.returns-else-starts_with
returns-else-starts_with c = unopened _ (sym c.starts_with.ensures.value ∙ c.if-starts_with.false)
