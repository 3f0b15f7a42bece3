-- What `list` promises, as `nergutsai_list` answers it: so many bytes of text, 0 where the output has no room.
use Prim.Native.Nat.{ℕ}
use mathlib.Core.Path.{◌≡◌, refl, ap, ◌∙◌}
use mathlib.Core.Bool.{Bool, true, false, cond}
use mathlib.Core.List.{List}
use lib.Dec.{ltb}
use lib.ListN.{length}
use Rattle.std.specs.Prelude.{Result, Ok, Err}
use Rattle.std.specs.Result.{result_unwrap_or}
use Rattle.listing.specs.declared.ShortOutput.{ShortOutput}
use Rattle.listing_rules.specs.Listing.{text, room}
use Rattle.listing.specs.Promises.{Lists, ListCalled}

bytes_cond : (t : Bool) (x : ShortOutput) (n : ℕ) → result_unwrap_or (cond t (Err x) (Ok n)) 0 ≡ cond t 0 n
bytes_cond true x n = refl
bytes_cond false x n = refl

pub list_called : (s m out : List ℕ) (r : Result ℕ ShortOutput) (n : ℕ) (m' out' : List ℕ)
    → Lists s m out r m' out' → n ≡ result_unwrap_or r 0 → ListCalled s m out n m' out'
list_called s m out r n m' out' x e =
    record {
      answer = e ∙ ap (λ (y : Result ℕ ShortOutput). result_unwrap_or y 0) x.answer
          ∙ bytes_cond (ltb (length out) (room (length s))) (record { needed = room (length s) }) (length (text s m));
      memory = x.memory;
      output = x.output;
    }
