-- What is at hand stands ahead, and can be done at once.
use Prim.Native.Nat.{ℕ}
use mathlib.Core.Path.{◌≡◌, refl, sym, ap, ◌∙◌}
use mathlib.Core.Bool.{Bool, true, false, cond, true≢false}
use borrow.Author.Tests.{eqb-true}
use lib.Dec.{eqb}
use Rattle.std.specs.Prelude.{Option, Some, None, is_some}
use Rattle.rules.specs.declared.Board.{Board}
use Rattle.rules.specs.declared.Event.TheVariants.{PowerUp, Write, Read, Signal}
use Rattle.rules.specs.declared.Signal.TheVariants.{Tick as tick, Outside, Trigger, Passed, Failed, Settled}
use Rattle.run.specs.declared.Cursor.{Cursor}
use Rattle.run.specs.Ahead.{Ahead, Found, Over}
use Rattle.listing.specs.declared.shortcuts.Common.{Common}
use Rattle.listing.specs.declared.shortcuts.Common.TheVariants.{Load, Tick}
use Rattle.listing.specs.Shortcuts.{common_event, common_of, quick, where_quick, at_hand}

abbrev Hand : Type 0
Hand = Common × Cursor

in_hand : Hand → Option Hand → Hand
in_hand d None = d
in_hand d (Some x) = x

same_hand : (x y : Hand) → Some x ≡ Some y → x ≡ y
unfolding in_hand
same_hand x y h = ap (in_hand x) h

nothing : {P : Type 0} (x : Hand) → Some x ≡ None → P
nothing x h = absurd (true≢false (ap is_some h))

common_known : (a : Ahead) (x : Hand) → Some x ≡ common_of a → a ≡ Found (common_event x.0) x.1
common_known (Found (Write o v) c) x h = go (eqb o 0x18) refl h
  where
    go : (t : Bool) → eqb o 0x18 ≡ t → Some x ≡ cond t (Some (Load v, c)) None → Found (Write o v) c ≡ Found (common_event x.0) x.1
    go true e h =
        ap (λ (n : ℕ). Found (Write n v) c) (eqb-true o 0x18 e)
        ∙ ap (λ (y : Hand). Found (common_event y.0) y.1) (sym (same_hand x (Load v, c) h))
    go false e h = nothing x h
common_known (Found (Signal tick) c) x h = ap (λ (y : Hand). Found (common_event y.0) y.1) (sym (same_hand x (Tick, c) h))
common_known (Found (Signal Outside) c) x h = nothing x h
common_known (Found (Signal Trigger) c) x h = nothing x h
common_known (Found (Signal Passed) c) x h = nothing x h
common_known (Found (Signal Failed) c) x h = nothing x h
common_known (Found (Signal Settled) c) x h = nothing x h
common_known (Found (PowerUp s) c) x h = nothing x h
common_known (Found (Read o) c) x h = nothing x h
common_known (Over end) x h = nothing x h

pub hand_known : (b : Board) (d : ℕ) (a : Ahead) (x : Hand) → Some x ≡ at_hand b d a
    → (a ≡ Found (common_event x.0) x.1) × (quick b d x.0 ≡ true)
hand_known b d a x h = go (common_of a) refl h
  where
    go : (y : Option Hand) → common_of a ≡ y → Some x ≡ where_quick b d y → (a ≡ Found (common_event x.0) x.1) × (quick b d x.0 ≡ true)
    go None e h = nothing x h
    go (Some y) e h = only (quick b d y.0) refl h
      where
        only : (t : Bool) → quick b d y.0 ≡ t → Some x ≡ cond t (Some y) None → (a ≡ Found (common_event x.0) x.1) × (quick b d x.0 ≡ true)
        only true q h =
            let s = same_hand x y h in
            (common_known a x (h ∙ sym e), ap (λ (z : Hand). quick b d z.0) s ∙ q)
        only false q h = nothing x h
