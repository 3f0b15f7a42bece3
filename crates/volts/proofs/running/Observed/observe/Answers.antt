use mathlib.Core.Path.{sym, ap, subst, ◌∙◌}
use mathlib.Core.Bool.{◌&&◌}
use lib.Dec.{eqb}
use Rattle.rules.specs.Types.{Answer}
use Rattle.volt_rules.specs.Counting.{is_power_up, count_event}
use Rattle.volts.specs.Watching.{seen_of, watched, SameRange}
use Rattle.volts.proofs.running.Observed.observe.Goals as goal

pub returns : goal.returns
unfolding count_event
returns c =
    let s = c.step-r.ensures in
    let e = c.args.e in
    let o = c.watch.ensures in
    let fresh = c.starts_afresh.ensures ∙ ap (λ (a : Answer). is_power_up e && eqb a.refusal 0) s.answer in
    record {
      board = o.same_board ∙ s.board;
      memory = s.memory;
      channels = λ w h same.
          o.watched w h (λ f. subst (SameRange w) (sym s.board) (same (sym fresh ∙ f)))
          ∙ (λ i. seen_of (watched (fresh i) (s.board i) w));
    }
