-- The pieces of a line, and of the end of a listing, are the line and the end.
use Prim.Native.Nat.{ℕ}
use mathlib.Core.Path.{◌≡◌, refl, sym, ap, ◌∙◌}
use mathlib.Core.List.{List, [], ◌∷◌, ◌++◌, append_assoc}
use borrow.Author.Tests.{eq-eqb, ne_eqb}
use Rattle.rules.specs.Types.{Answer}
use Rattle.basics.specs.Ascii.{newline, space}
use Rattle.listing_rules.specs.Text.{decimal, decimal_in, hex, line, levels_line, file_line, tail}
use Rattle.file_rules.specs.Pieces.{Piece}
use Rattle.lines.specs.Pieces.{rest}
use Rattle.file_rules.proofs.Joined.{then, renamed}

-- ---- The line of a record

-- what stands before the end of a line, and the end, are the line's fields in order
rest_joined : (x : List ℕ) (moved fate count : ℕ)
    → x ++ rest moved fate count ≡ x ++ space ∷ decimal moved ++ space ∷ decimal fate ++ space ∷ decimal count ++ newline ∷ []
rest_joined x moved fate count =
    let m = space ∷ decimal moved in
    let f = space ∷ decimal fate in
    let c = space ∷ decimal count in
    sym (append_assoc x ((m ++ f) ++ c) (newline ∷ []))
    ∙ ap (λ (y : List ℕ). y ++ newline ∷ []) (sym (append_assoc x (m ++ f) c))
    ∙ ap (λ (y : List ℕ). (y ++ c) ++ newline ∷ []) (sym (append_assoc x m f))

-- " 0 00000000"
abbrev zero_fields : List ℕ
zero_fields = 32 ∷ 48 ∷ 32 ∷ 48 ∷ 48 ∷ 48 ∷ 48 ∷ 48 ∷ 48 ∷ 48 ∷ 48 ∷ []

zeros_joined : (x : List ℕ) → x ++ zero_fields ≡ x ++ space ∷ decimal 0 ++ space ∷ hex 8 0
unfolding hex decimal_in
zeros_joined x = sym (append_assoc x (space ∷ decimal 0) (space ∷ hex 8 0))

-- a line to its register
abbrev to_register : ℕ → Answer → List ℕ
to_register number a = decimal number ++ space ∷ decimal a.refusal ++ space ∷ hex 8 a.register

module _ {o o1 o2 : List ℕ} {at p q : ℕ} (number : ℕ) where
  joined : (a : Answer) (count : ℕ)
      → Piece o at (to_register number a) o1 p
      → Piece o1 p (rest a.moved a.fate count) o2 q
      → Piece o at (line number a count) o2 q
  unfolding line
  joined a count x y = renamed (rest_joined (to_register number a) a.moved a.fate count) (then x y)

  pub line_joined : {o3 o4 o5 : List ℕ} {r s t : ℕ} (a : Answer) (count : ℕ)
      → Piece o at (decimal number) o3 r
      → Piece o3 r (space ∷ decimal a.refusal) o4 s
      → Piece o4 s (space ∷ []) o5 t
      → Piece o5 t (hex 8 a.register) o1 p
      → Piece o1 p (rest a.moved a.fate count) o2 q
      → Piece o at (line number a count) o2 q
  line_joined a count x refusal gap register y = joined a count (then (then x refusal) (then gap register)) y

  pub done_joined : {o3 : List ℕ} {r : ℕ} (moved fate count : ℕ)
      → Piece o at (decimal number) o3 r
      → Piece o3 r zero_fields o1 p
      → Piece o1 p (rest moved fate count) o2 q
      → Piece o at (line number (record { refusal = 0; register = 0; moved = moved; fate = fate }) count) o2 q
  done_joined moved fate count x z y = joined _ count (renamed (zeros_joined (decimal number)) (then x z)) y

-- ---- The end of a listing

module _ (n p : ℕ) (levels : List ℕ) where
  pub tail_plain : n ≡ 0 → levels_line levels ≡ tail n p levels
  unfolding tail
  tail_plain h = rw (eq-eqb n 0 h) refl

  pub tail_refused : (n ≡ 0 → ⊥) → file_line n p ++ levels_line levels ≡ tail n p levels
  unfolding tail
  tail_refused h = rw (ne_eqb n 0 h) refl
