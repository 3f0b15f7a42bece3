-- The depth is asked for only of settings in range.
use Prim.Native.Nat.{ℕ, min}
use mathlib.Core.Path.{◌≡◌, sym, ap, ◌∙◌}
use native.Mathlib.Nat.{min-eq_left}
use Rattle.rules.specs.declared.Settings.{Settings}
use Rattle.rules.specs.Record.{depth_of}
use Rattle.rules.specs.Told.{Told}
use Rattle.rules.specs.Refusals.{setting_refusal}
use Rattle.rules.proofs.Numbered.{handed_on}
use Rattle.rules.proofs.Own.{power_up_own}
use Rattle.rules.proofs.Refusals.{none_bad_in_range}
use Rattle.refusals.proofs.events.judge_power_up.Goals as goal

pub returns-in_err-judge_settings : goal.returns-in_err-judge_settings
returns-in_err-judge_settings c =
    λ b m h. rw (power_up_own _ _, sym c.in_err-judge_settings.ensures) (handed_on _ _ _ c.from_residual.ensures.1)

-- past the first test no setting is bad, and what was told is the depth
its_depth : (x : Settings) (r : ℕ) → setting_refusal x ≡ 0 → Told (depth_of (min x.fitted 15)) r → r ≡ depth_of x.fitted
its_depth x r z p = p.told ∙ ap depth_of (min-eq_left (none_bad_in_range x z).fitted)

pub returns : goal.returns
returns c =
    λ b m h.
    let none = sym c.in_ok-judge_settings.ensures in
    let d = its_depth c.args.x _ none c.depth_of.ensures in
    rw (power_up_own _ _, none, h, c.judge_memory.ensures, d)
