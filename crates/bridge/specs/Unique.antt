-- Any two outcomes that a promise allows are equal. The proofs are in proofs/.
use Rattle.std.specs.Prelude.{ℕ, ◌≡◌, List}
use Rattle.bridge.specs.Promises.{Called, RateCalled}

abbrev pub Called-one : Type 0
Called-one =
    (row memory event answer : List ℕ) (n n₂ : ℕ) (r r₂ m m₂ a a₂ : List ℕ)
    → Called row memory event answer n r m a → Called row memory event answer n₂ r₂ m₂ a₂
    → (n ≡ n₂) × (r ≡ r₂) × (m ≡ m₂) × (a ≡ a₂)

abbrev pub RateCalled-one : Type 0
RateCalled-one =
    (row figures : List ℕ) (n n₂ : ℕ) (f f₂ : List ℕ) → RateCalled row figures n f → RateCalled row figures n₂ f₂
    → (n ≡ n₂) × (f ≡ f₂)
