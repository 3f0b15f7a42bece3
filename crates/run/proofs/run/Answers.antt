use mathlib.Core.Path.{◌≡◌, refl, sym, ap, subst, ◌∙◌}
use native.Mathlib.Omega.{arith}
use borrow.Author.Rules.{rules}
use Rattle.std.specs.Prelude.{Ok, Some, None}
use Rattle.rules.specs.declared.Board.{Board}
use Rattle.rules.specs.Record.{State, state_of, start}
use Rattle.run.specs.Ahead.{progress_of}
use Rattle.run.specs.Way.{Way}
use Rattle.run.proofs.Ways.{way_start, way_on, way_ends}
use Rattle.run.proofs.Advancing.{was_played}
use Rattle.run.proofs.Leaves.{Finish, Leaves, leaves_played, runs_out}
use Rattle.run.proofs.run.Goals as goal

pub loop-after-init : goal.loop-after-init
loop-after-init c =
    let a = c.args in
    let w = way_start Finish State Leaves a.s.now (start a.memory.now) in
    let q = ap (λ (b : Board). state_of b a.memory.now) c.unpowered-board.ensures.told in
    (refl, subst (λ (st : State). Way Leaves a.s.now (start a.memory.now) st (record { place = 0 })) (sym q) w)

pub loop-after-smaller : goal.loop-after-smaller
loop-after-smaller c =
    let a = c.args in
    let l = c.loop-after in
    let played = c.in-Ok-Some in
    let p : c.advance-a.result.progress ≡ Ok (Some (played.field-0-0-0, played.after)) = search (rules, played.is, played.field-0-is) in
    let w = was_played a.s.now l.c (state_of l.board l.memory) _ _ (sym c.advance-a.ensures.progress ∙ ap progress_of p) in
    omega (arith, way_ends a.s.now l.c played.after w.0 w.1)

pub loop-after-preserved : goal.loop-after-preserved
loop-after-preserved c =
    let a = c.args in
    let l = c.loop-after in
    let st = state_of l.board l.memory in
    let r = c.advance-a.ensures in
    let played = c.in-Ok-Some in
    let p : c.advance-a.result.progress ≡ Ok (Some (played.field-0-0-0, played.after)) = search (rules, played.is, played.field-0-is) in
    let w = was_played a.s.now l.c st _ _ (sym r.progress ∙ ap progress_of p) in
    let after = c.in-Ok-Some.after in
    let on = way_on Finish State Leaves a.s.now (start a.memory.now) st _ l.c after w.0 l.invariant.1 w.1 (leaves_played st w.0) in
    let q = (λ i. state_of (r.board i) (r.memory i)) ∙ w.2 in
    (c.advance-a.auto.memory ∙ l.invariant.0, subst (λ (x : State). Way Leaves a.s.now (start a.memory.now) x after) (sym q) on)

pub returns-in-Ok-None : goal.returns-in-Ok-None
returns-in-Ok-None c =
    let p : c.advance-a.result.progress ≡ Ok None = search (rules, c.in-Ok-None.is, c.in-Ok-None.field-0-is) in
    let r = c.advance-a.ensures in
    runs_out _ _ _ _ _ _ _ _ _ c.loop-after.invariant.1 r (sym r.progress ∙ ap progress_of p) refl

pub returns-in-Err : goal.returns-in-Err
returns-in-Err c =
    let r = c.advance-a.ensures in
    runs_out _ _ _ _ _ _ _ _ _ c.loop-after.invariant.1 r (sym r.progress ∙ ap progress_of c.in-Err.is) refl
