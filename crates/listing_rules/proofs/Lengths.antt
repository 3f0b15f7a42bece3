-- The lines of the listing are at most as long as the room that their functions ask for; the line of levels is as long.
use Prim.Native.Nat.{ℕ, ◌+◌, ◌*◌, ◌≤◌}
use mathlib.Core.Path.{◌≡◌, refl}
use mathlib.Core.List.{List, [], ◌∷◌}
use native.Mathlib.Omega.{arith}
use lib.ListN.{length, length-append}
use Rattle.rules.specs.Types.{Answer}
use Rattle.listing_rules.specs.Text.{line, levels_in, levels_line, file_line}
use Rattle.listing_rules.proofs.Numbers.{decimal_long, hex_long}

pub line_length : (k : ℕ) (a : Answer) (count : ℕ) → length (line k a count) ≤ 64
unfolding line
line_length k a count =
    simp (length-append, hex_long)
    (omega (
      arith,
      decimal_long 9 k,
      decimal_long 9 a.refusal,
      decimal_long 9 a.moved,
      decimal_long 9 a.fate,
      decimal_long 9 count,
    ))

pub file_line_length : (n p : ℕ) → length (file_line n p) ≤ 27
unfolding file_line
file_line_length n p = simp length-append (omega (arith, decimal_long 9 n, decimal_long 9 p))

levels_in_length : (ls : List ℕ) → length (levels_in ls) ≡ 5 * length ls + 1
unfolding levels_in
levels_in_length [] = refl
levels_in_length (x ∷ xs) = simp (length-append, hex_long, levels_in_length xs) (omega arith)

pub levels_length : (ls : List ℕ) → length ls ≡ 20 → length (levels_line ls) ≡ 107
unfolding levels_line
levels_length ls h = omega (arith, levels_in_length ls)
