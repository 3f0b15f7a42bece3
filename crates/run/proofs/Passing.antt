-- What is left of a session, when a loop over its items has passed one, and at the end.
use Prim.Native.Nat.{ℕ, zero, suc, ◌+◌, ◌≤◌, ◌<◌}
use mathlib.Core.Path.{◌≡◌, refl, ap, ◌∙◌}
use mathlib.Core.List.{List, ◌∷◌}
use native.Mathlib.Omega.{arith}
use lib.ListN.{length}
use Rattle.std.specs.Prelude.{Ok, Some, Result}
use Rattle.rules.specs.declared.Event.{Event}
use Rattle.file_rules.specs.declared.FileError.{FileError}
use Rattle.file_rules.specs.Item.{End, Item, Got, Over as over}
use Rattle.file_rules.specs.File.{item_at, Session, on_item, from}
use Rattle.file_rules.proofs.Given.{item_grows}
use Rattle.run.specs.declared.Cursor.{Cursor}
use Rattle.run.specs.Ahead.{Found, Over}
use Rattle.run.specs.Run.{found}
use Rattle.run.specs.Items.{ending, met, items_of, left}
use Rattle.run.proofs.Ways.{event_stood, end_stood}

-- however many records may be looked at, if they are enough
enough : (s : List ℕ) (f g at : ℕ) → at ≤ length s → length s < at + f → length s < at + g → from f s at ≡ from g s at
unfolding from
enough s zero g at h a b = absurd (omega (arith, h, a))
enough s (suc f) zero at h a b = absurd (omega (arith, h, b))
enough s (suc f) (suc g) at h a b = go (enough s f g) (item_at s at) refl
  where
    go : ((next : ℕ) → next ≤ length s → length s < next + f → length s < next + g → from f s next ≡ from g s next) → (i : Item) → item_at s at ≡ i → on_item (from f s) i ≡ on_item (from g s) i
    go k (Got e next) q =
        let w = item_grows s at e next q in
        let r = k next w.1 (omega (arith, w.0, a)) (omega (arith, w.0, b)) in
        λ i. record { events = e ∷ (r i).events; end = (r i).end }
    go k (over x) q = refl

pub left_on : (s : List ℕ) (c after : Cursor) (e : Event) → c.place ≤ length s → found s c ≡ Found e after
    → (left s (Some c) ≡ Ok e ∷ left s (Some after)) × (after.place ≤ length s)
unfolding from met
left_on s c after e h f =
    let q = event_stood s c after e f in
    let g = item_grows s c.place e after.place q in
    let r = enough s (length s) (suc (length s)) after.place g.1 (omega (arith, g.0)) (omega arith) in
    let rest : Item → List (Result Event FileError) = λ i. items_of (on_item (from (length s) s) i) in
    (ap rest q ∙ ap (λ (z : Session). Ok e ∷ items_of z) r, g.1)

pub left_over : (s : List ℕ) (c : Cursor) (x : End) → found s c ≡ Over x → left s (Some c) ≡ ending x
unfolding from met
left_over s c x f = ap (λ (i : Item). items_of (on_item (from (length s) s) i)) (end_stood s c x f)
