-- Which lines a listing has (specs/LineLaws, Lines-listed): its parts are cut one after the other.
use Prim.Native.Nat.{ℕ, suc, ◌+◌}
use mathlib.Core.Path.{◌≡◌, refl, sym, ap, ◌∙◌}
use mathlib.Core.List.{List, [], ◌∷◌, ◌++◌, append_assoc}
use native.Mathlib.Nat.{add-zero}
use native.Mathlib.Omega.{arith}
use lib.ListN.{length, get_or, length-append}
use lib.Seq.{get_or-append-add}
use Rattle.rules.specs.Types.{Answer}
use Rattle.rules.specs.declared.Event.{Event}
use Rattle.rules.specs.Record.{State, start}
use Rattle.rules.specs.Step.{Outcome, step}
use Rattle.rules.specs.Session.{outcomes, after}
use Rattle.file_rules.specs.declared.Fault.TheVariants.{Version, Cut, Length, Kind}
use Rattle.file_rules.specs.Item.{End}
use Rattle.file_rules.specs.Item.{File, Refused}
use Rattle.file_rules.specs.File.{fault_number, session}
use Rattle.basics.specs.Ascii.{ascii, newline, space}
use Rattle.listing_rules.specs.Text.{heading, file_head, levels_head, decimal, hex, line, levels_in, levels_line, file_line, tail}
use Rattle.listing_rules.specs.Listing.{lines, levels_of, ending, listing}
use Rattle.listing_rules.specs.LineLaws.{cut_behind, lines_in, outcome_line, Lines-listed}
use Rattle.listing_rules.proofs.Cutting.{Without, also, OnePiece, end, lacks, without_both, without_given}
use Rattle.listing_rules.proofs.Cutting.{piece_behind, cut_piece, cut_last, decimal_without, hex_without}

-- ---- Each line is one piece

digits : (n : ℕ) → Without newline (decimal n)
digits n = decimal_without newline (omega arith) n

spaced : (xs : List ℕ) → Without newline xs → Without newline (space ∷ xs)
spaced xs h = also {x = space} (λ e. omega (arith, e)) h

pub line_piece : (k : ℕ) (a : Answer) (count : ℕ) → OnePiece newline (line k a count)
unfolding line
line_piece k a count =
    let low = hex_without newline (omega arith) in
    let to-refusal = without_both _ _ (digits k) (spaced _ (digits a.refusal)) in
    let to-register = without_both _ _ to-refusal (spaced _ (low 8 a.register)) in
    let to-moved = without_both _ _ to-register (spaced _ (digits a.moved)) in
    let to-fate = without_both _ _ to-moved (spaced _ (digits a.fate)) in
    piece_behind _ _ (without_both _ _ to-fate (spaced _ (digits count))) end

file_piece : (n p : ℕ) → OnePiece newline (file_line n p)
unfolding file_line lacks
file_piece n p =
    piece_behind _ _ (without_both _ _ (without_both file_head _ (without_given _ _ refl) (digits n)) (spaced _ (digits p))) end

levels_in_piece : (ls : List ℕ) → OnePiece newline (levels_in ls)
unfolding levels_in
levels_in_piece [] = end
levels_in_piece (x ∷ xs) = piece_behind (space ∷ hex 4 x) _ (spaced _ (hex_without newline (omega arith) 4 x)) (levels_in_piece xs)

levels_piece : (ls : List ℕ) → OnePiece newline (levels_line ls)
unfolding levels_line lacks
levels_piece ls = piece_behind levels_head _ (without_given _ _ refl) (levels_in_piece ls)

-- ---- The listing cut

outcome_lines : ℕ → List Outcome → List (List ℕ)
outcome_lines k [] = []
outcome_lines k (o ∷ os) = outcome_line k o ∷ outcome_lines (k + 1) os

lines_cut : (k : ℕ) (os : List Outcome) (ys : List ℕ) → cut_behind newline (lines k os ++ ys) ≡ outcome_lines k os ++ cut_behind newline ys
unfolding lines outcome_lines
lines_cut k [] ys = refl
lines_cut k (o ∷ os) ys =
    ap (cut_behind newline) (append_assoc (outcome_line k o) (lines (k + 1) os) ys)
    ∙ cut_piece newline (outcome_line k o) _ (line_piece k _ _)
    ∙ ap {B = List (List ℕ)} (λ l. outcome_line k o ∷ l) (lines_cut (k + 1) os ys)

abbrev end_lines : End → List ℕ → List (List ℕ)
end_lines File ls = levels_line ls ∷ []
end_lines (Refused why p) ls = file_line (fault_number why) p ∷ levels_line ls ∷ []

refused_cut : (n p : ℕ) (ls : List ℕ) → cut_behind newline (file_line n p ++ levels_line ls) ≡ file_line n p ∷ levels_line ls ∷ []
refused_cut n p ls =
    cut_piece newline _ _ (file_piece n p) ∙ ap {B = List (List ℕ)} (λ l. file_line n p ∷ l) (cut_last newline _ (levels_piece ls))

end_cut : (x : End) (ls : List ℕ) → cut_behind newline (ending x ls) ≡ end_lines x ls
unfolding ending tail fault_number
end_cut File ls = cut_last newline _ (levels_piece ls)
end_cut (Refused Version p) ls = refused_cut 10 p ls
end_cut (Refused Cut p) ls = refused_cut 11 p ls
end_cut (Refused Length p) ls = refused_cut 12 p ls
end_cut (Refused Kind p) ls = refused_cut 13 p ls

outcome_count : (k : ℕ) (st : State) (es : List Event) → length (outcome_lines k (outcomes st es)) ≡ length es
unfolding outcome_lines outcomes
outcome_count k st [] = refl
outcome_count k st (e ∷ es) = ap suc (outcome_count (k + 1) (step st e).state es)

-- the line of an event among them, counted from the first
nth_line : (k : ℕ) (st : State) (before behind : List Event) (e : Event) (rest : List (List ℕ))
    → get_or (outcome_lines k (outcomes st (before ++ e ∷ behind)) ++ rest) (length before) []
    ≡ outcome_line (k + length before) (step (after st before) e)
unfolding outcome_lines outcomes after
nth_line k st [] behind e rest = ap (λ (n : ℕ). outcome_line n (step st e)) (sym (add-zero k))
nth_line k st (x ∷ xs) behind e rest =
    nth_line (k + 1) (step st x).state xs behind e rest
    ∙ ap (λ (n : ℕ). outcome_line n (step (after (step st x).state xs) e)) (omega arith)

module _ (s m : List ℕ) where
  es : List Event
  es = (session s).events

  shown : List (List ℕ)
  shown = outcome_lines 1 (outcomes (start m) es)

  shown_count : length shown ≡ length es
  unfolding shown
  shown_count = outcome_count 1 (start m) es

  levels : List ℕ
  levels = levels_of (after (start m) es)

  listing_cut : (x : End) → (session s).end ≡ x → lines_in s m ≡ heading ∷ (shown ++ end_lines x levels)
  unfolding listing lacks es shown levels
  listing_cut x h =
      cut_piece newline heading _ (piece_behind (ascii "REHEARSAL 1") _ (without_given _ _ refl) end)
      ∙ ap {B = List (List ℕ)} (λ l. heading ∷ l)
      (lines_cut 1 (outcomes (start m) es) _ ∙ ap (λ (l : List (List ℕ)). shown ++ l) (end_cut _ levels ∙ ap (λ (y : End). end_lines y levels) h))

  -- line k + 1 is number k behind the heading
  line_next : (x : End) → (session s).end ≡ x → (k n : ℕ) → n ≡ suc k → get_or (lines_in s m) n [] ≡ get_or (shown ++ end_lines x levels) k []
  line_next x h k n e = λ i. get_or (listing_cut x h i) (e i) []

  -- and behind the events
  line_behind : (x : End) → (session s).end ≡ x → (k n : ℕ) → n ≡ length es + suc k → get_or (lines_in s m) n [] ≡ get_or (end_lines x levels) k []
  line_behind x h k n e =
      line_next x h (length shown + k) n (omega (arith, e, shown_count)) ∙ get_or-append-add shown (end_lines x levels) k []

  count_lines : (x : End) → (session s).end ≡ x → length (lines_in s m) ≡ suc (length es + length (end_lines x levels))
  count_lines x h = ap length (listing_cut x h) ∙ omega (arith, length-append shown (end_lines x levels), shown_count)

-- "FILE n p", its pieces put together another way
pub file_joined : (n p : ℕ) → file_line n p ≡ ascii "FILE " ++ decimal n ++ ascii " " ++ decimal p ++ ascii "\n"
unfolding file_line
file_joined n p = ap (λ (l : List ℕ). l ++ newline ∷ []) (sym (append_assoc (file_head ++ decimal n) (space ∷ []) (decimal p)))

pub lines_listed : Lines-listed
unfolding es shown levels
lines_listed s m =
    record {
      heading = ap (λ (l : List (List ℕ)). get_or l 0 []) (listing_cut s m _ refl);
      events =
          λ before behind e h.
          line_next s m _ refl (length before) _ (omega arith)
          ∙ ap (λ (l : List Event). get_or (outcome_lines 1 (outcomes (start m) l) ++ end_lines (session s).end (levels s m)) (length before) []) h
          ∙ nth_line 1 (start m) before behind e _
          ∙ ap (λ (n : ℕ). outcome_line n (step (after (start m) before) e)) (omega arith);
      whole = λ h. (omega (arith, count_lines s m File h), line_behind s m File h 0 _ (omega arith));
      refused =
          λ why p h. (
            omega (arith, count_lines s m (Refused why p) h),
            line_behind s m (Refused why p) h 0 _ (omega arith) ∙ file_joined (fault_number why) p,
            line_behind s m (Refused why p) h 1 _ (omega arith),
          );
    }
