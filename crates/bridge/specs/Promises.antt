-- What each exported function promises, as one predicate that fixes every outcome.
use Rattle.std.specs.Prelude.{ℕ, ◌≡◌, List, length}
use Rattle.bridge.specs.Calls.{call_status, left, rate_status, figures_left}

-- nergutsai_event(r, m, e, a) = n, and r, m and a are r', m' and a' afterwards
pub record Called (r m e a : List ℕ) (n : ℕ) (r' m' a' : List ℕ) : Type 0 where
  pub understood : n ≡ call_status (length r) e (length a)
  pub row : r' ≡ (left r m e a).row
  pub memory : m' ≡ (left r m e a).memory
  pub answer : a' ≡ (left r m e a).answer

-- nergutsai_rate(r, f) = n, and f is f' afterwards
pub record RateCalled (r f : List ℕ) (n : ℕ) (f' : List ℕ) : Type 0 where
  pub understood : n ≡ rate_status (length r) (length f)
  pub figures : f' ≡ figures_left r f
