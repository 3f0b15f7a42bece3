-- What the public function and the exported one promise: each fixes the answer, every byte of the output and every entry of the sample memory.
use Rattle.std.specs.Prelude.{ℕ, ◌≡◌, cond, List, ltb, length, Result, Ok, Err}
use Rattle.std.proofs.lemmas.List.Edits.{sets}
use Rattle.listing.specs.declared.ShortOutput.{ShortOutput}
use Rattle.listing_rules.specs.Listing.{text, memory_after, room}

-- the first where the output has room for the listing of the file s, else the second
abbrev pub with_room : {A : Type 0} → List ℕ → List ℕ → A → A → A
with_room s out x y = cond (ltb (length out) (room (length s))) y x

-- list(s, m, out) = r, and m and out are m' and out' afterwards
pub record Lists (s m out : List ℕ) (r : Result ℕ ShortOutput) (m' out' : List ℕ) : Type 0 where
  pub answer : r ≡ with_room s out (Ok (length (text s m))) (Err (record { needed = room (length s) }))
  pub memory : m' ≡ with_room s out (memory_after s m) m
  -- the text from the first byte on; what stands past it is as it was
  pub output : out' ≡ with_room s out (sets out 0 (text s m)) out

-- nergutsai_list(s, m, out) = n, and m and out are m' and out' afterwards
pub record ListCalled (s m out : List ℕ) (n : ℕ) (m' out' : List ℕ) : Type 0 where
  pub answer : n ≡ with_room s out (length (text s m)) 0
  pub memory : m' ≡ with_room s out (memory_after s m) m
  pub output : out' ≡ with_room s out (sets out 0 (text s m)) out
