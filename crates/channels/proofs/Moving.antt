-- Which channels a clock gives values to, and how many values it moves, by the tests of the code.
use Prim.Native.Nat.{ℕ, ◌≤◌}
use mathlib.Core.Path.{◌≡◌, refl, sym, ◌∙◌}
use mathlib.Core.Logic.{◌≢◌}
use mathlib.Core.Bool.{true, false}
use mathlib.Core.List.{List, [], ◌∷◌}
use native.Mathlib.Omega.{arith}
use borrow.Author.Tests.{ltb-false}
use lib.ListN.{length}
use Rattle.rules.specs.Bits.{active_from}
use Rattle.rules.specs.Clocks.{next_channel, targets, idle, moving}
use Rattle.rules.proofs.Choice.{cases, cond_true, cond_false, or_neither}
use Rattle.rules.specs.declared.Core.{Core}
use Rattle.laws.proofs.Lasting.{next_below}
use Rattle.channels.specs.Serving.{served_by}
use Rattle.channels.proofs.Single.{only_one}

-- ---- Which channels

pub targets_simultaneous : (c : Core) → c.control.simultaneous ≡ true → targets c ≡ active_from 0 c.outputs.mask
unfolding targets
targets_simultaneous c h = cond_true _ _ _ h

pub targets_sequential : (c : Core) → c.control.simultaneous ≡ false → targets c ≡ next_channel c ∷ []
unfolding targets
targets_sequential c h = cond_false _ _ _ h

-- the channels of the mask that is served are the targets
pub served_targets : (c : Core) → c.outputs.cursor ≤ 20 → active_from 0 (served_by c) ≡ targets c
unfolding served_by
served_targets c h =
    cases (λ (m : ℕ). active_from 0 m ≡ targets c) c.control.simultaneous
    (λ t. sym (targets_simultaneous c t))
    (λ t. only_one 20 0 (next_channel c) (omega arith) (omega (arith, next_below c h)) ∙ sym (targets_sequential c t))

-- ---- How many values

module _ (c : Core) (buf : List ℕ) where
  -- a clock that moves any moves the whole group, which is there
  pub moving_some : moving c buf ≢ 0 → (moving c buf ≡ length (targets c)) × (length (targets c) ≤ length buf)
  unfolding moving
  moving_some =
      cases (λ (n : ℕ). n ≢ 0 → (n ≡ length (targets c)) × (length (targets c) ≤ length buf)) _
      (λ _ h. absurd (h refl))
      (λ e _. (refl, ltb-false _ _ (or_neither (idle c) _ e).1))
