-- Where the fitted code is out of range the first test has failed, and the depth does not matter.
use Prim.Native.Nat.{ℕ, min}
use mathlib.Core.Path.{◌≡◌, refl, ap, ◌∙◌}
use mathlib.Core.Bool.{Bool, true, false}
use mathlib.Core.List.{List, [], ◌∷◌}
use native.Mathlib.Nat.{min-eq_left}
use borrow.Author.Tests.{leb-true}
use lib.Dec.{leb, ltb}
use Rattle.rules.specs.Bits.{all}
use Rattle.rules.specs.Record.{depth_of, sound_ring}
use Rattle.rules.specs.declared.Ring.{Ring}
use Rattle.rules.specs.declared.Size.{Size}
use Rattle.soundness.proofs.Joined.{joined, all_joined}
use Rattle.soundness.proofs.clauses.sound_ring.Goals as goal

abbrev clauses : Bool → Size → Ring → ℕ → Bool
clauses t s r d = all (t ∷ leb s.code 15 ∷ ltb r.first d ∷ leb r.count d ∷ [])

in_range : (s : Size) (r : Ring) (t : Bool) → leb s.fitted 15 ≡ t → clauses t s r (depth_of (min s.fitted 15)) ≡ clauses t s r (depth_of s.fitted)
unfolding all
in_range s r true e = ap (λ (d : ℕ). clauses true s r (depth_of d)) (min-eq_left (leb-true _ _ e))
in_range s r false e = refl

pub returns : goal.returns
unfolding sound_ring joined
returns c =
    let a = c.args in
    all_joined _ (leb a.s.code 15 ∷ ltb a.r.first a.d ∷ leb a.r.count a.d ∷ [])
    ∙ (λ i. clauses (c.fitted_in_range.ensures.told i) a.s a.r (c.requires i))
    ∙ in_range a.s a.r _ refl
