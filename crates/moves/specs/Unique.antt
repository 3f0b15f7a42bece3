-- Any two outcomes that a promise allows are equal.
use Rattle.std.specs.Prelude.{ℕ, ◌≡◌, Bool, List}
use Rattle.rules.specs.declared.Core.{Core}
use Rattle.rules.specs.declared.Ring.{Ring}
use Rattle.moves.specs.declared.Frame.{Frame}
use Rattle.moves.specs.declared.Stored.{Stored}
use Rattle.moves.specs.Promises.{Deals, LoadsOne}

abbrev pub Deals-unique : Type 0
Deals-unique =
    (mask : ℕ) (x : Frame) (binary again : Bool) (d : ℕ) (ls m : List ℕ) (r r' : Frame) (ls₁ ls₂ n n' : List ℕ)
    → Deals mask x binary again d ls m r ls₁ n
    → Deals mask x binary again d ls m r' ls₂ n'
    → (r ≡ r') × (ls₁ ≡ ls₂) × (n ≡ n')

abbrev pub LoadsOne-unique : Type 0
LoadsOne-unique =
    (c : Core) (size : ℕ) (ring : Ring) (d v : ℕ) (m : List ℕ) (r r' : Stored) (n n' : List ℕ)
    → LoadsOne c size ring d v m r n
    → LoadsOne c size ring d v m r' n'
    → (r ≡ r') × (n ≡ n')
