-- The cuts of specs/Instances meet the premises; what the theorems then say.
use Prim.Native.Nat.{ℕ, zero, suc, ◌+◌, ◌*◌, ◌≤◌, ◌<◌, ◌^◌}
use mathlib.Core.Path.{◌≡◌, refl, subst, ◌∙◌}
use mathlib.Core.Logic.{◌≢◌}
use mathlib.Core.Bool.{Bool, true, false, ◌&&◌}
use mathlib.Core.List.{List, [], ◌∷◌, map}
use native.Mathlib.Omega.{arith}
use borrow.Author.Tests.{ltb-true, leb-true}
use lib.Dec.{ltb, leb}
use lib.ListN.{length, get_or, replicate}
use Rattle.rules.specs.declared.Settings.{Settings}
use Rattle.rules.specs.declared.Event.TheVariants.{PowerUp as power_up}
use Rattle.rules.specs.declared.Board.{Board}
use Rattle.rules.specs.Bits.{active, all}
use Rattle.rules.specs.Record.{State, state_of, depth_of, channels, stored}
use Rattle.rules.specs.Refusals.{first_of, setting_rows, rows, refusal}
use Rattle.rules.specs.Step.{Outcome}
use Rattle.rules.proofs.Choice.{and_both}
use Rattle.rules.proofs.Bench.{alike, alike_equal}
use Rattle.file_rules.specs.Bytes.{records_of, file_of}
use Rattle.laws.specs.Moved.{Coding, level_at}
use Rattle.cut_rules.specs.Cut.{Cut, sample, chosen, eof_on_last, numbers_from, groups, numbers, events, is_grouped, is_choice, cut_refusal}
use Rattle.cut_rules.specs.Laws.{Sixteen}
use Rattle.cut_rules.specs.Plays.{Ordered, Equipped, StoredInOrder, powered, Fine, none, next, Playable, control_first, buffer_first, InTurn, OnItsOutput, PlaysRead}
use Rattle.cut_rules.specs.Examples.{small, cut_of_four}
use Rattle.instances.specs.Cuts.{six, twenty, left_over, two_groups, cut_of_eight, together, in_turn, shipped_file, AllAnswered, FilesRead, FourAtOnce, EightInTurn, Cuts-met}
use Rattle.cut_rules.proofs.Given.{bits_inside, good_cut}
use Rattle.cut_rules.proofs.Loading.{cut_stored}
use Rattle.cut_rules.proofs.Plays.{channel_plays}
use Rattle.cut_rules.proofs.Shipped.{shipped_plays}

-- ---- Premises, by computation

all_sixteen : List ℕ → Bool
all_sixteen [] = true
all_sixteen (x ∷ xs) = ltb x 0x10000 && all_sixteen xs

sixteen : (xs : List ℕ) → all_sixteen xs ≡ true → Sixteen xs
unfolding all_sixteen
sixteen [] h i = omega arith
sixteen (x ∷ xs) h zero = ltb-true x 0x10000 (and_both (ltb x 0x10000) _ h).0
sixteen (x ∷ xs) h (suc i) = sixteen xs (and_both (ltb x 0x10000) _ h).1 i

ordered : (q : Cut) → all_sixteen q.recording ≡ true → (n place : ℕ) → cut_refusal q n place ≡ 0 → Ordered q
ordered q s n place z =
    let g = good_cut q n place z in
    record { count = g.count; grouped = g.grouped; choice = g.choice; sixteen = sixteen q.recording s }

equipped : (q : Cut) (s : State) (x : Settings) → refusal s (power_up x) ≡ 0 → ltb q.mask (2 ^ channels x.kit) ≡ true
    → leb (length (numbers q)) (depth_of x.fitted) ≡ true → Equipped q s x
equipped q s x a m r =
    record {
      accepted = a;
      outputs = bits_inside (channels x.kit) q.mask (ltb-true _ _ m);
      room = leb-true _ _ r;
    }

pub four_good : cut_refusal cut_of_four 73 32 ≡ 0
unfolding active all first_of records_of file_of sample chosen eof_on_last numbers_from groups numbers events is_grouped is_choice cut_refusal
four_good = refl

pub eight_good : cut_refusal cut_of_eight 73 0 ≡ 0
unfolding active all first_of records_of file_of sample chosen eof_on_last numbers_from groups numbers events is_grouped is_choice cut_refusal
eight_good = refl

four_sixteen : all_sixteen small ≡ true
unfolding all_sixteen
four_sixteen = refl

eight_sixteen : all_sixteen two_groups ≡ true
unfolding all_sixteen
eight_sixteen = refl

four_equipped : (b : Board) → Equipped cut_of_four (state_of b left_over) six
unfolding refusal rows setting_rows first_of depth_of channels active sample chosen numbers_from groups numbers
four_equipped b = equipped cut_of_four (state_of b left_over) six refl refl refl

eight_equipped : (b : Board) → Equipped cut_of_eight (state_of b left_over) twenty
unfolding refusal rows setting_rows first_of depth_of channels active sample chosen numbers_from groups numbers
eight_equipped b = equipped cut_of_eight (state_of b left_over) twenty refl refl refl

together_plays : Playable 0x90 0x20
together_plays =
    record { no_bursts = refl; no_calibration = refl; no_initialise = refl; generator = refl; enabled = refl; uncircled = refl; unemptied = refl }

in_turn_plays : Playable 0xFFFF5F6E 0xFFFFF6EF
in_turn_plays =
    record { no_bursts = refl; no_calibration = refl; no_initialise = refl; generator = refl; enabled = refl; uncircled = refl; unemptied = refl }

-- ---- What is told of each

fates_answered : {os : List Outcome} → Fine os → (i : ℕ) → get_or (map (λ (o : Outcome). o.answer.fate) os) i 0 ≤ 1
fates_answered none i = omega arith
fates_answered (next r f g) zero = f
fates_answered (next r f g) (suc i) = fates_answered g i

refusals_answered : {os : List Outcome} → Fine os → map (λ (o : Outcome). o.answer.refusal) os ≡ replicate (length os) 0
refusals_answered none = refl
refusals_answered (next r f g) = λ i. r i ∷ refusals_answered g i

all_answered : {os : List Outcome} → Fine os → AllAnswered os
all_answered f = record { refusals = refusals_answered f; fates = fates_answered f }

pub files_read : (q : Cut) (v : ℕ) (m : List ℕ) (file : ℕ → List ℕ) → PlaysRead q v m file → FilesRead m file
files_read q v m file h = record { whole = h.whole; answers = λ n. all_answered (h.fine n) }

-- a level by its coding: offset binary, and two's complement from 0 up and below
pub same_told : {v level : ℕ} (d : ℕ) → Coding true v level → v ≡ d → d < 0x10000 → level ≡ d
same_told d c e l = let h = c.same refl in omega (arith, h, e)

pub lower_told : {v level : ℕ} (d : ℕ) → Coding false v level → v ≡ d → d < 0x8000 → level ≡ d + 0x8000
lower_told d c e l = let h = c.lower refl (omega (arith, e)) in omega (arith, h, e)

pub upper_told : {v level : ℕ} (d : ℕ) → Coding false v level → v ≡ d + 0x8000 → d < 0x8000 → level ≡ d
upper_told d c e l = let h = c.upper refl (omega (arith, e)) in omega (arith, h, e)

-- In turn, the chosen channels being ks. The channels are told by themselves, over any boards: where one is another, that is told at once,
-- and no board is played for it.
pub record TurnsOf (q : Cut) (binary : Bool) (at : ℕ → State) (ks : List ℕ) : Type 0 where
  pub plays : (j i : ℕ) → j < groups q → i < length ks
      → Coding binary (sample q (q.first + j) (get_or ks i 0)) (level_at (at (suc (j * length ks + i))) (get_or ks i 0))
  pub holds : (j i k : ℕ) → j < groups q → i < length ks → k ≢ get_or ks i 0
      → level_at (at (suc (j * length ks + i))) k ≡ level_at (at (j * length ks + i)) k
  pub over : stored (at (groups q * length ks)) ≡ []

eight_chosen : chosen cut_of_eight ≡ 0 ∷ 3 ∷ 16 ∷ 18 ∷ []
unfolding active chosen
eight_chosen = refl

eight_turns : (at : ℕ → State) → InTurn cut_of_eight false at (length (chosen cut_of_eight)) → TurnsOf cut_of_eight false at (0 ∷ 3 ∷ 16 ∷ 18 ∷ [])
eight_turns at t = subst (TurnsOf cut_of_eight false at) eight_chosen (record { plays = t.plays; holds = t.holds; over = t.over })

four_at_once : (at : ℕ → State) → OnItsOutput cut_of_four 0x90 at → FourAtOnce at
unfolding sample groups
four_at_once at h =
    let g = h.simultaneous refl in
    let first : 0 < groups cut_of_four = omega arith in
    let second : 1 < groups cut_of_four = omega arith in
    record {
      first = (same_told 0x2001 (g.plays 0 1 first refl) refl (omega arith), same_told 0x2003 (g.plays 0 3 first refl) refl (omega arith));
      second = (same_told 0x3001 (g.plays 1 1 second refl) refl (omega arith), same_told 0x3003 (g.plays 1 3 second refl) refl (omega arith));
      held = (g.holds 0 0 first refl, g.holds 1 2 second refl, g.holds 1 20 second refl);
      over = g.over;
    }

eight_in_turn : (at : ℕ → State) → OnItsOutput cut_of_eight 0xFFFF5F6E at → EightInTurn at
unfolding sample groups
eight_in_turn at h =
    let t = eight_turns at (h.sequential refl) in
    let first : 0 < groups cut_of_eight = omega arith in
    let second : 1 < groups cut_of_eight = omega arith in
    record {
      first = (
        lower_told 0x0100 (t.plays 0 0 first (omega arith)) refl (omega arith),
        lower_told 0x0103 (t.plays 0 1 first (omega arith)) refl (omega arith),
        lower_told 0x0110 (t.plays 0 2 first (omega arith)) refl (omega arith),
        lower_told 0x0112 (t.plays 0 3 first (omega arith)) refl (omega arith),
      );
      second = (
        upper_told 0x1100 (t.plays 1 0 second (omega arith)) refl (omega arith),
        upper_told 0x1103 (t.plays 1 1 second (omega arith)) refl (omega arith),
        upper_told 0x1110 (t.plays 1 2 second (omega arith)) refl (omega arith),
        upper_told 0x1112 (t.plays 1 3 second (omega arith)) refl (omega arith),
      );
      held = λ k n. (t.holds 0 2 k first (omega arith) n, t.holds 1 2 k second (omega arith) n);
      over = t.over;
    }

-- ---- The theorems

pub four_ordered : Ordered cut_of_four
four_ordered = ordered cut_of_four four_sixteen 73 32 four_good

pub eight_ordered : Ordered cut_of_eight
eight_ordered = ordered cut_of_eight eight_sixteen 73 0 eight_good

four_stored : (b : Board) → StoredInOrder cut_of_four (powered (state_of b left_over) six)
four_stored b = cut_stored cut_of_four (state_of b left_over) six four_ordered (four_equipped b)

eight_stored : (b : Board) → StoredInOrder cut_of_eight (powered (state_of b left_over) twenty)
eight_stored b = cut_stored cut_of_eight (state_of b left_over) twenty eight_ordered (eight_equipped b)

four_file : PlaysRead cut_of_four 0x90 left_over (shipped_file cut_of_four 32 six together)
four_file =
    shipped_plays cut_of_four six 0x90 0x20 together left_over (replicate 73 0) 32 four_ordered.sixteen four_good (four_equipped _)
    together_plays (omega arith) (omega arith) control_first

eight_file : PlaysRead cut_of_eight 0xFFFF5F6E left_over (shipped_file cut_of_eight 0 twenty in_turn)
eight_file =
    shipped_plays cut_of_eight twenty 0xFFFF5F6E 0xFFFFF6EF in_turn left_over (replicate 73 0) 0 eight_ordered.sixteen eight_good (eight_equipped _)
    in_turn_plays (omega arith) (omega arith) buffer_first

-- the stored values of each, by themselves
four_marked : alike (eof_on_last (numbers cut_of_four)) (0x2001 ∷ 0x2003 ∷ 0x3001 ∷ 0x13003 ∷ []) ≡ true
unfolding alike active sample chosen eof_on_last numbers_from groups numbers
four_marked = refl

eight_marked : alike (eof_on_last (numbers cut_of_eight)) (0x0100 ∷ 0x0103 ∷ 0x0110 ∷ 0x0112 ∷ 0x9100 ∷ 0x9103 ∷ 0x9110 ∷ 0x19112 ∷ []) ≡ true
unfolding alike active sample chosen eof_on_last numbers_from groups numbers
eight_marked = refl

pub cuts_met : Cuts-met
cuts_met =
    record {
      four_ordered = four_ordered;
      four_equipped = four_equipped;
      four_stored = four_stored;
      four_answers = λ b. all_answered (four_stored b).fine;
      four_values = λ b. (four_stored b).values ∙ alike_equal _ _ four_marked;
      eight_ordered = eight_ordered;
      eight_equipped = eight_equipped;
      eight_stored = eight_stored;
      eight_answers = λ b. all_answered (eight_stored b).fine;
      eight_values = λ b. (eight_stored b).values ∙ alike_equal _ _ eight_marked;
      four_heard = λ b.
          four_at_once _
          (channel_plays cut_of_four (state_of b left_over) six 0x90 0x20 together four_ordered (four_equipped b) together_plays control_first);
      eight_heard = λ b.
          eight_in_turn _
          (channel_plays cut_of_eight (state_of b left_over) twenty 0xFFFF5F6E 0xFFFFF6EF in_turn eight_ordered (eight_equipped b) in_turn_plays buffer_first);
      four_read = files_read _ _ _ _ four_file;
      four_plays = four_file.plays;
      four_shipped = four_at_once _ four_file.plays;
      eight_read = files_read _ _ _ _ eight_file;
      eight_plays = eight_file.plays;
      eight_shipped = eight_in_turn _ eight_file.plays;
    }
