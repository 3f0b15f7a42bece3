-- The bits of a field as the code takes them, and the number of a list of bits as it reckons that: bit by bit from the end.
use Prim.Native.Nat.{ℕ, ◌+◌, ◌*◌, ◌/◌, ◌^◌, ◌≤◌, ◌<◌}
use mathlib.Core.Path.{◌≡◌, refl, sym, ap, ◌∙◌}
use mathlib.Core.Bool.{Bool, true, false}
use mathlib.Core.List.{List, [], ◌∷◌, ◌++◌}
use native.Mathlib.Nat.{div-one}
use native.Mathlib.Omega.{arith}
use mir.Val.{bool_byte}
use lib.ListN.{length}
use lib.Pow.{pow_mono}
use Rattle.std.proofs.lemmas.List.{append_assoc, append-nil, length-append}
use Rattle.rules.specs.Bits.{bit, bits_of, flag, number}
use Rattle.rules.proofs.Readings.{flag_le}
use Rattle.rules.proofs.Registers.{number_below}

-- ---- The bits of a field

pub bits_of_3 : (v : ℕ) → bits_of 3 v ≡ bit 0 v ∷ bit 1 v ∷ bit 2 v ∷ []
unfolding bits_of
bits_of_3 v =
    let e : v / 2 / 2 ≡ v / 4 = omega arith in
    rw (div-one (v / 2 / 2), div-one (v / 2), div-one v, e)

pub bits_of_4 : (v : ℕ) → bits_of 4 v ≡ bit 0 v ∷ bit 1 v ∷ bit 2 v ∷ bit 3 v ∷ []
unfolding bits_of
bits_of_4 v =
    let d : v / 2 / 2 / 2 ≡ v / 8 = omega arith in
    let e : v / 2 / 2 ≡ v / 4 = omega arith in
    rw (div-one (v / 2 / 2 / 2), div-one (v / 2 / 2), div-one (v / 2), div-one v, d, e)

-- ---- The number of a list, from its last bit to its first

-- n is the number of the bits behind the rest
pub record Reckoned (bits rest : List Bool) (n : ℕ) : Type 0 where
  pub behind : List Bool
  pub whole : rest ++ behind ≡ bits
  pub theirs : n ≡ number behind

pub reckoned_start : (bits : List Bool) → Reckoned bits bits 0
unfolding number
reckoned_start bits = record { behind = []; whole = append-nil bits; theirs = refl }

flag_byte : (b : Bool) → bool_byte b ≡ flag b
unfolding flag
flag_byte true = refl
flag_byte false = refl

module _ {bits rest : List Bool} {n : ℕ} (r : Reckoned bits rest n) (rest' : List Bool) (b : Bool) (e : rest ≡ rest' ++ b ∷ []) where
  -- one bit more
  pub reckoned_more : (x : ℕ) → x ≡ bool_byte b → Reckoned bits rest' (x + 2 * n)
  unfolding number
  reckoned_more x p =
      record {
        behind = b ∷ r.behind;
        whole = sym (append_assoc rest' (b ∷ []) r.behind) ∙ ap (λ (bs : List Bool). bs ++ r.behind) (sym e) ∙ r.whole;
        theirs = λ i. (p ∙ flag_byte b) i + 2 * r.theirs i;
      }

  -- the number so far leaves room for it
  pub reckoned_fits : length bits ≤ 32 → n < 2 ^ 31
  reckoned_fits h =
      let whole = ap (length {A = Bool}) r.whole in
      let last = ap (length {A = Bool}) e in
      let l : length r.behind ≤ 31 = omega (arith, h, whole, length-append rest r.behind, last, length-append rest' (b ∷ [])) in
      let p : 2 ^ length r.behind ≤ 2 ^ 31 = pow_mono l in
      omega (arith, number_below r.behind, r.theirs, p)

pub byte_small : (x : ℕ) (b : Bool) → x ≡ bool_byte b → x ≤ 1
byte_small x b p = rw (p ∙ flag_byte b) (flag_le b)

pub reckoned_all : {bits rest : List Bool} {n : ℕ} → Reckoned bits rest n → length rest ≡ 0 → n ≡ number bits
reckoned_all {rest = []} r h = r.theirs ∙ ap number r.whole
reckoned_all {rest = b ∷ rest} r h = absurd (omega (arith, h))
