use mathlib.Core.Path.{sym, ap, ◌∙◌}
use Rattle.std.specs.Prelude.{Bool, List, Some, None, cond}
use Rattle.volt_rules.specs.declared.Extremes.{Extremes}
use Rattle.volts.proofs.Watching.{watched_first, watched_none, watched_more}
use Rattle.volts.proofs.running.Observed.watch.Goals as goal

pub returns-then-fresh-clause-watched : goal.returns-then-fresh-clause-watched
returns-then-fresh-clause-watched c w e same =
    watched_first _ c.args.self.now.board w _ c.if-fresh.true c.start_all.ensures

pub returns-then-self-clause-watched : goal.returns-then-self-clause-watched
returns-then-self-clause-watched c w e same =
    let o = c.args.self.now in
    let f = c.if-fresh.false in
    let counts = λ (xs : List Extremes). ap (λ (t : Bool). cond t (Some xs) None) c.if-self.true in
    counts c.enter_all.new.channels ∙ watched_more _ o.board w _ _ f (sym (counts o.channels) ∙ e) (same f) c.enter_all.ensures

pub returns-else-self-clause-watched : goal.returns-else-self-clause-watched
returns-else-self-clause-watched c w e same =
    let o = c.args.self.now in
    let none = ap (λ (t : Bool). cond t (Some o.channels) None) c.if-self.false in
    none ∙ watched_none _ o.board w c.if-fresh.false (sym none ∙ e)
