-- What the public function and the exported one promise: each fixes every outcome, the sample memory too.
use Rattle.std.specs.Prelude.{ℕ, ◌≡◌, List, [], ◌∷◌, Float}
use Rattle.volt_rules.specs.declared.Extremes.{Extremes}
use Rattle.volts.specs.Numbered.{Table}
use Rattle.volt_rules.specs.Table.{table_refusal, table_channels, table_memory}

-- volts(s, m) answers what r is the numbers of (`table_of`), and m is m' afterwards
pub record Tabled (s m : List ℕ) (r : Table) (m' : List ℕ) : Type 0 where
  pub refusal : r.refusal ≡ table_refusal s m
  pub channels : r.channels ≡ table_channels s m
  -- 02: "The sample memory is as the run left it", also where the session is refused
  pub memory : m' ≡ table_memory s m

abbrev pub three : Extremes → List Float
three x = x.lowest ∷ x.highest ∷ x.last ∷ []

-- lowest, highest and last, channel after channel
unfoldable pub numbers_of : List Extremes → List Float
numbers_of [] = []
numbers_of (x ∷ xs) = x.lowest ∷ x.highest ∷ x.last ∷ numbers_of xs

-- nergutsai_volts(s, m, numbers) = n, and m and numbers are m' and v afterwards
pub record VoltsCalled (s m : List ℕ) (n : ℕ) (m' : List ℕ) (v : List Float) : Type 0 where
  pub refusal : n ≡ table_refusal s m
  pub numbers : v ≡ numbers_of (table_channels s m)
  pub memory : m' ≡ table_memory s m
