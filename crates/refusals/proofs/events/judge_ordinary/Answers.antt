use mathlib.Core.Path.{sym, ◌∙◌}
use Rattle.rules.proofs.Numbered.{handed_on}
use Rattle.rules.proofs.Own.{refusal_own}
use Rattle.refusals.proofs.events.judge_ordinary.Goals as goal

pub returns-in_err-judge_record : goal.returns-in_err-judge_record
returns-in_err-judge_record c =
    λ m h o. rw (refusal_own _ _ o, c.in_err-judge_record.ensures m h) (handed_on _ _ _ c.from_residual.ensures.1)

pub returns : goal.returns
returns c = λ m h o. c.judge_own.ensures ∙ sym (rw (refusal_own _ _ o) (c.in_ok-judge_record.ensures m h _))
