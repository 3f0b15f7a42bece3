-- What a line says (specs/LineLaws, Line-says): cut at its spaces it is its six fields; and the line of levels (Levels-say).
use Prim.Native.Nat.{ℕ, zero, suc, ◌^◌, ◌<◌}
use mathlib.Core.Path.{◌≡◌, refl, sym, ap, ◌∙◌}
use mathlib.Core.List.{List, [], ◌∷◌, ◌++◌, append_assoc}
use native.Mathlib.Omega.{arith}
use lib.Dec.{ltb}
use lib.ListN.{length, get_or, length-append}
use Rattle.rules.proofs.Choice.{either}
use Rattle.basics.specs.Ascii.{newline, space}
use Rattle.listing_rules.specs.Text.{levels_head, decimal, decimal_in, hex, line, levels_in, levels_line}
use Rattle.listing_rules.specs.LineLaws.{cut_behind, InDecimal, Line-says, LevelsSaid, last, level, Levels-say}
use Rattle.listing_rules.proofs.Numbers.{decimal_said, decimal_plain, hex_said, hex_long}
use Rattle.listing_rules.proofs.Cutting.{Without, end, lacks, without_given, piece_behind, cut_piece, cut_rest, decimal_without, hex_without}

-- ---- Numbers

decimal_some : (f n : ℕ) → 0 < length (decimal_in f n)
unfolding decimal_in
decimal_some zero n = omega arith
decimal_some (suc f) n =
    either (λ (l : List ℕ). 0 < length l) (ltb n 10) (omega arith)
    (rw length-append (omega arith))

in_decimal : (n : ℕ) → n < 2 ^ 32 → InDecimal n (decimal n)
unfolding decimal_in
in_decimal zero h = record { says = decimal_said 0 h; some = omega arith; plain = λ l. absurd (omega arith) }
in_decimal (suc n) h =
    record { says = decimal_said (suc n) h; some = decimal_some 9 (suc n); plain = λ l. decimal_plain (suc n) h (omega arith) }

-- ---- Fields

-- a field and the space behind it are cut off
field_cut : (xs ys : List ℕ) → Without space xs → cut_behind space (xs ++ (space ∷ ys)) ≡ (xs ++ space ∷ []) ∷ cut_behind space ys
field_cut xs ys h = ap (cut_behind space) (sym (append_assoc xs (space ∷ []) ys)) ∙ cut_piece space _ ys (piece_behind xs _ h end)

regrouped : (a b c d e f g : List ℕ) → a ++ b ++ c ++ d ++ e ++ f ++ g ≡ a ++ (b ++ (c ++ (d ++ (e ++ (f ++ g)))))
regrouped a b c d e f g = simp append_assoc

six_cut : (a b c d e f : List ℕ)
    → Without space a → Without space b → Without space c → Without space d → Without space e → Without space f
    → cut_behind space (a ++ space ∷ b ++ space ∷ c ++ space ∷ d ++ space ∷ e ++ space ∷ f ++ newline ∷ [])
    ≡ (a ++ space ∷ []) ∷ (b ++ space ∷ []) ∷ (c ++ space ∷ []) ∷ (d ++ space ∷ []) ∷ (e ++ space ∷ []) ∷ (f ++ newline ∷ []) ∷ []
six_cut a b c d e f p q r s t u =
    let more : List ℕ → List (List ℕ) → List (List ℕ) = λ x l. (x ++ space ∷ []) ∷ l in
    ap (cut_behind space) (regrouped a (space ∷ b) (space ∷ c) (space ∷ d) (space ∷ e) (space ∷ f) (newline ∷ []))
    ∙ field_cut a _ p
    ∙ ap (more a) (field_cut b _ q
    ∙ ap (more b) (field_cut c _ r
    ∙ ap (more c) (field_cut d _ s
    ∙ ap (more d) (field_cut e _ t
    ∙ ap (more e) (cut_rest space f newline u (λ z. omega (arith, z)))))))

pub line_says : Line-says
unfolding line
line_says k a count hk hr hg hm hf hc =
    let digits : (n : ℕ) → Without space (decimal n) = λ n. decimal_without space (omega arith) n in
    record {
      number_field = decimal k;
      refusal_field = decimal a.refusal;
      register_field = hex 8 a.register;
      moved_field = decimal a.moved;
      fate_field = decimal a.fate;
      count_field = decimal count;
      fields =
          six_cut _ _ _ _ _ _ (digits k) (digits a.refusal) (hex_without space (omega arith) 8 a.register)
          (digits a.moved) (digits a.fate) (digits count);
      number_said = in_decimal k hk;
      refusal_said = in_decimal a.refusal hr;
      register_said = record { says = hex_said 8 a.register hg; eight = hex_long 8 a.register };
      moved_said = in_decimal a.moved hm;
      fate_said = in_decimal a.fate hf;
      count_said = in_decimal count hc;
    }

-- ---- Levels

levels_cut : (x : ℕ) (xs : List ℕ) → ((i : ℕ) → get_or (x ∷ xs) i 0 < 2 ^ 16)
    → (ps : List (List ℕ)) × (cut_behind space (hex 4 x ++ levels_in xs) ≡ ps) × LevelsSaid (x ∷ xs) ps
unfolding levels_in
levels_cut x [] h = (
  (hex 4 x ++ newline ∷ []) ∷ [],
  cut_rest space (hex 4 x) newline (hex_without space (omega arith) 4 x) (λ z. omega (arith, z)),
  last x (hex 4 x) (hex_said 4 x (h 0)) (hex_long 4 x),
)
levels_cut x (y ∷ ys) h =
    let r = levels_cut y ys (λ i. h (suc i)) in (
      (hex 4 x ++ space ∷ []) ∷ r.0,
      field_cut (hex 4 x) (hex 4 y ++ levels_in ys) (hex_without space (omega arith) 4 x)
          ∙ ap {B = List (List ℕ)} (λ l. (hex 4 x ++ space ∷ []) ∷ l) r.1,
      level x (hex 4 x) (y ∷ ys) r.0 (hex_said 4 x (h 0)) (hex_long 4 x) r.2,
    )

pub levels_say : Levels-say
unfolding levels_line levels_in lacks
levels_say x xs h =
    let r = levels_cut x xs h in (
      r.0,
      field_cut levels_head (hex 4 x ++ levels_in xs) (without_given _ _ refl)
          ∙ ap {B = List (List ℕ)} (λ l. (levels_head ++ space ∷ []) ∷ l) r.1,
      r.2,
    )
