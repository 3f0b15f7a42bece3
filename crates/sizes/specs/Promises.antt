-- What the public function and the exported one promise: it fixes every outcome, the sample memory too.
use Rattle.std.specs.Prelude.{ℕ, ◌≡◌, List}
use Rattle.size_rules.specs.Smallest.{size_refusal, size_code, size_memory}
use Rattle.sizes.specs.Numbered.{Smallest}

-- smallest_size(s, m) answers what r is the numbers of (`smallest_of`), and m is m' afterwards; nergutsai_smallest_size(s, m, code) answers
-- r's refusal, and leaves its code in `code`
pub record SizeNamed (s m : List ℕ) (r : Smallest) (m' : List ℕ) : Type 0 where
  pub refusal : r.refusal ≡ size_refusal s m
  pub code : r.code ≡ size_code s m
  pub memory : m' ≡ size_memory s m
