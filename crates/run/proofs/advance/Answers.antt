-- What stands at the cursor is what `next` told; an event is the board's step.
use mathlib.Core.Path.{refl, sym, ap, ◌∙◌}
use Rattle.std.specs.Prelude.{Ok}
use Rattle.run.specs.Ahead.{Played, ahead_of}
use Rattle.run.proofs.Advancing.{advances}
use Rattle.run.proofs.advance.Goals as goal

pub returns-in-Ok-Some : goal.returns-in-Ok-Some
returns-in-Ok-Some c =
    let n = c.in-Ok-Some.is ∙ ap Ok c.in-Ok-Some.field-0-is in
    let r = c.step-r.ensures in
    advances _ _ _ _ _ _ (sym c.next.ensures.told ∙ ap ahead_of n) (λ i. Played (r.answer i) c.in-Ok-Some.after) r.board r.memory

pub returns-in-Ok-None : goal.returns-in-Ok-None
returns-in-Ok-None c =
    let n = c.in-Ok-None.is ∙ ap Ok c.in-Ok-None.field-0-is in
    advances _ _ _ _ _ _ (sym c.next.ensures.told ∙ ap ahead_of n) refl refl refl

pub returns-in-Err : goal.returns-in-Err
returns-in-Err c = advances _ _ _ _ _ _ (sym c.next.ensures.told ∙ ap ahead_of c.in-Err.is) refl refl refl
