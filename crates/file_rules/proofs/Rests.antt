-- The session from a place on, as a loop over the records passes it: at the start it is the whole; an event is its first, and the rest
-- is the session from the next place on; where the file ends it has no event.
use Prim.Native.Nat.{ℕ, zero, suc, ◌+◌, ◌≤◌, ◌<◌}
use mathlib.Core.Path.{◌≡◌, refl, ap, ◌∙◌}
use mathlib.Core.List.{List, [], ◌∷◌}
use native.Mathlib.Omega.{arith}
use lib.ListN.{length}
use Rattle.rules.specs.declared.Event.{Event}
use Rattle.file_rules.specs.Item.{End}
use Rattle.file_rules.specs.Item.{Item}
use Rattle.file_rules.specs.Item.{Got, Over}
use Rattle.file_rules.specs.File.{item_at, Session, on_item, from, session, Rest}
use Rattle.file_rules.proofs.Given.{item_grows}

pub rest_start : (s : List ℕ) → Rest s 0 (session s)
unfolding session
rest_start s = record { within = omega arith; fuel = suc (length s); enough = omega arith; is = refl }

-- before the end one more record is looked at
more : (f n at : ℕ) → at ≤ n → n < at + f → (g : ℕ) × (f ≡ suc g)
more zero n at h l = absurd (omega arith)
more (suc g) n at h l = (g, refl)

module _ (s : List ℕ) (at : ℕ) (x : Session) (r : Rest s at x) where
  looked : (i : Item) → item_at s at ≡ i → (g : ℕ) × (r.fuel ≡ suc g) × (x ≡ on_item (from g s) i)
  unfolding from
  looked i e =
      let m = more r.fuel (length s) at r.within r.enough in
      (m.0, m.1, r.is ∙ ap (λ (f : ℕ). from f s at) m.1 ∙ ap (on_item (from m.0 s)) e)

  pub rest_got : (e : Event) (next : ℕ) → item_at s at ≡ Got e next
      → (y : Session) × Rest s next y × (x.events ≡ e ∷ y.events) × (x.end ≡ y.end)
  rest_got e next h =
      let m = looked (Got e next) h in
      let g = item_grows s at e next h in (
        from m.0 s next,
        record { within = g.1; fuel = m.0; enough = omega (arith, g.0, m.1, r.enough); is = refl },
        ap (λ (z : Session). z.events) m.2,
        ap (λ (z : Session). z.end) m.2,
      )

  pub rest_over : (y : End) → item_at s at ≡ Over y → (x.events ≡ []) × (x.end ≡ y)
  rest_over y h =
      let m = looked (Over y) h in
      (ap (λ (z : Session). z.events) m.2, ap (λ (z : Session). z.end) m.2)
