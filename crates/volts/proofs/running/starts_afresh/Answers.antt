use mathlib.Core.Path.{sym, ◌∙◌}
use mathlib.Core.Bool.{true≢false}
use Rattle.volt_rules.specs.Counting.{is_power_up}
use Rattle.volts.proofs.Watching.{accepted}
use Rattle.volts.proofs.running.starts_afresh.Goals as goal
use Rattle.volts.proofs.running.starts_afresh.Goals.{in-PowerUp, in_default}

pub returns-then-matches : goal.returns-then-matches
unfolding is_power_up
returns-then-matches c =
    elim c.match-matches.branch [
      | in-PowerUp w ↦ rw w.in-PowerUp.is (c.is_ok-accepted.ensures.value ∙ accepted c.args.answer)
      | in_default w ↦ absurd (true≢false (sym c.if-matches.true ∙ w.matches-is))
    ]
