-- What specs/InstancesOfLaws says, from the laws.
use Prim.Native.Nat.{ℕ, suc, ◌+◌, ◌*◌, ◌≤◌, ◌<◌}
use mathlib.Core.Path.{◌≡◌, refl, sym, ap, subst, ◌∙◌}
use mathlib.Core.Logic.{◌≢◌, inl, inr}
use mathlib.Core.Bool.{true, false, false≢true}
use mathlib.Core.List.{List, [], ◌∷◌}
use native.Mathlib.Omega.{arith}
use lib.Count.{ones}
use lib.ListN.{length, get_or}
use Rattle.rules.specs.declared.Event.{Event}
use Rattle.rules.specs.declared.Event.TheVariants.{Read as read, Write as write}
use Rattle.rules.specs.Bits.{bit, active}
use Rattle.file_rules.specs.WritingLaws.{Reread}
use Rattle.cut_rules.specs.Cut.{Cut, sample, chosen, eof_on_last, numbers_from, groups, numbers, events, cut_refusal, cut_end, cut_output}
use Rattle.cut_rules.specs.Laws.{Grouped, GoodChoice, NumbersTold, CutGiven, bad_group, part_group, empty, outside, reversed, beyond, past_end, too_long, done}
use Rattle.cut_rules.specs.Examples.{of_small, recorded, cut_of_four, four_numbers}
use Rattle.instances.specs.Cuts.{cut_of_eight}
use Rattle.instances.specs.CutLaws.{ChosenTold, FourMarked, four_events, FourSession, GoodCalls, BadCalls, Unwritten, CutReread, Cut-laws-met}
use Rattle.cut_rules.proofs.Lists.{eof_told}
use Rattle.cut_rules.proofs.ChosenNumbers.{numbers_told}
use Rattle.cut_rules.proofs.Given.{session_told, bits_inside, grouped_count, cut_exactly, cut_refused}
use Rattle.cut_rules.proofs.Shipped.{cut_read_lem}
use Rattle.cut_rules.proofs.Examples.{cut_shown}
use Rattle.instances.proofs.Cuts.{four_ordered}

-- ---- The orders

four_grouped : Grouped cut_of_four 3
four_grouped = record { some = omega arith; most = omega arith; whole = refl }

four_choice : GoodChoice cut_of_four 3
four_choice = record { some = omega arith; inside = bits_inside 4 0b1010 (omega arith); forward = omega arith; within = omega arith }

eight_grouped : Grouped cut_of_eight 2
eight_grouped = record { some = omega arith; most = omega arith; whole = refl }

eight_choice : GoodChoice cut_of_eight 2
eight_choice = record { some = omega arith; inside = bits_inside 20 0x50009 (omega arith); forward = omega arith; within = omega arith }

-- ---- Numbers-told

module _ (q : Cut) (t : NumbersTold q) (c : ℕ) (e : length (chosen q) ≡ c) where
  many : ones q.mask ≡ c
  many = sym t.channels.as_many_as_ones ∙ e

  told_at : (j i : ℕ) → j < groups q → i < c
      → get_or (numbers q) (j * c + i) 0 ≡ get_or q.recording ((q.first + j) * q.channels + get_or (chosen q) i 0) 0
  told_at =
      subst (λ (n : ℕ). (j i : ℕ) → j < groups q → i < n
      → get_or (numbers q) (j * n + i) 0 ≡ get_or q.recording ((q.first + j) * q.channels + get_or (chosen q) i 0) 0) many t.there

  chosen_told : (taken left : ℕ) → bit taken q.mask ≡ true → bit left q.mask ≡ false → 1 < c → q.last ≡ suc q.first
      → ChosenTold q c taken left
  chosen_told taken left a b l n =
      let g : groups q ≡ 2 = omega (arith, t.groups_cut, n) in
      record {
        among = (t.channels.active taken).1 a;
        not_among = λ m. false≢true (sym b ∙ (t.channels.active left).0 m);
        ascending = t.channels.ascending 0 1 (omega arith) (omega (arith, e, l));
        channels = many;
        groups_cut = g;
        long = t.long ∙ (λ i. g i * many i);
      }

four_told : NumbersTold cut_of_four
four_told = numbers_told cut_of_four 3 four_grouped four_choice

eight_told : NumbersTold cut_of_eight
eight_told = numbers_told cut_of_eight 2 eight_grouped eight_choice

four_chosen : ChosenTold cut_of_four 2 3 2
unfolding active chosen
four_chosen = chosen_told cut_of_four four_told 2 refl 3 2 refl refl (omega arith) refl

eight_chosen : ChosenTold cut_of_eight 4 18 17
unfolding active chosen
eight_chosen = chosen_told cut_of_eight eight_told 4 refl 18 17 refl refl (omega arith) refl

-- the i-th of the j-th group
four_at : (j i : ℕ) → j < 2 → i < 2 → get_or (numbers cut_of_four) (j * 2 + i) 0 ≡ get_or cut_of_four.recording ((1 + j) * 4 + get_or (1 ∷ 3 ∷ []) i 0) 0
unfolding active chosen
four_at j i l k = told_at cut_of_four four_told 2 refl j i (omega (arith, l, four_chosen.groups_cut)) k

eight_at : (j i : ℕ) → j < 2 → i < 4
    → get_or (numbers cut_of_eight) (j * 4 + i) 0 ≡ get_or cut_of_eight.recording ((0 + j) * 20 + get_or (0 ∷ 3 ∷ 16 ∷ 18 ∷ []) i 0) 0
unfolding active chosen
eight_at j i l k = told_at cut_of_eight eight_told 4 refl j i (omega (arith, l, eight_chosen.groups_cut)) k

-- ---- Eof-told

four_marked : FourMarked
four_marked =
    let t = eof_told four_numbers in
    record {
      long = t.long;
      last = t.last 3 refl;
      others = (t.others 0 (omega arith), t.others 1 (omega arith), t.others 2 (omega arith));
      single = (eof_told (7 ∷ [])).last 0 refl;
    }

-- ---- Session-told

four_load : (i : ℕ) → i < 4 → get_or (events cut_of_four) (suc i) (read 0) ≡ write 0x18 (get_or (eof_on_last four_numbers) i 0)
four_load i l =
    (session_told cut_of_four).load i (omega (arith, l, four_chosen.long))
    ∙ ap (λ (vs : List ℕ). write 0x18 (get_or (eof_on_last vs) i 0)) cut_shown.chosen

four_session : FourSession
four_session =
    let t = session_told cut_of_four in
    let l = four_chosen.long in
    record {
      many = omega (arith, t.many, l);
      mask = t.mask;
      first = four_load 0 (omega arith) ∙ ap (write 0x18) four_marked.others.0;
      last = four_load 3 (omega arith) ∙ ap (write 0x18) four_marked.last;
      bytes = omega (arith, t.bytes, l);
    }

-- ---- Cut-exactly

module _ (q : Cut) (n place : ℕ) (g : ℕ) (h : Grouped q g) where
  never_22 : CutGiven q n place 22 → ⊥
  never_22 (bad_group (inl e)) = omega (arith, h.some, e)
  never_22 (bad_group (inr l)) = omega (arith, h.most, l)
  never_22 (part_group l f) = f g h.whole

  module _ (c : GoodChoice q g) where
    never_23 : CutGiven q n place 23 → ⊥
    never_23 (empty _ _ e) = c.some e
    never_23 (outside _ _ k l t) = omega (arith, c.inside k t, l)
    never_23 (reversed _ _ l) = omega (arith, c.forward, l)
    never_23 (beyond g' h' l) = omega (arith, c.within, l, grouped_count q g h, grouped_count q g' h')

    module _ (bytes : ℕ) (e : 1 + 8 * (1 + groups q * ones q.mask) ≡ bytes) where
      as_done : CutGiven q n place 0 → place + bytes ≤ n
      as_done (done _ _ _ k) = omega (arith, k, e)

      as_short : CutGiven q n place 21 → (place ≤ n) × (n < place + bytes)
      as_short (too_long _ _ _ l k) = (l, omega (arith, k, e))

      as_past : CutGiven q n place 20 → n < place
      as_past (past_end _ _ _ l) = l

      good_calls : GoodCalls q bytes n place
      good_calls =
          let x = cut_exactly q n place in
          record {
            done = (λ z. as_done ((x 0).0 z), λ l. (x 0).1 (done g h c (omega (arith, e, l))));
            short = (λ z. as_short ((x 21).0 z), λ l. (x 21).1 (too_long g h c l.0 (omega (arith, e, l.1))));
            past = (λ z. as_past ((x 20).0 z), λ l. (x 20).1 (past_end g h c l));
            grouped = λ z. never_22 ((x 22).0 z);
            choice = λ z. never_23 ((x 23).0 z);
          }

four_calls : (n place : ℕ) → GoodCalls cut_of_four 41 n place
four_calls n place = good_calls cut_of_four n place 3 four_grouped four_choice 41 (λ i. 1 + 8 * (1 + four_chosen.groups_cut i * four_chosen.channels i))

eight_calls : (n place : ℕ) → GoodCalls cut_of_eight 73 n place
eight_calls n place = good_calls cut_of_eight n place 2 eight_grouped eight_choice 73 (λ i. 1 + 8 * (1 + eight_chosen.groups_cut i * eight_chosen.channels i))

-- three groups of four, whatever is chosen
small_grouped : (first last mask : ℕ) → Grouped (of_small 4 first last mask) 3
small_grouped first last mask = record { some = omega arith; most = omega arith; whole = refl }

module _ (n place : ℕ) where
  part_only : (channels : ℕ) → CutGiven (of_small channels 0 0 1) n place 22 → 1 ≤ channels → channels ≤ 20 → (k : ℕ) → 12 ≢ k * channels
  part_only channels (bad_group (inl e)) a b = absurd (omega (arith, e))
  part_only channels (bad_group (inr l)) a b = absurd (omega (arith, l))
  part_only channels (part_group l f) a b = f

  bad_calls : BadCalls n place
  bad_calls =
      record {
        no_channels = (cut_exactly (of_small 0 0 0 1) n place 22).1 (bad_group (inl refl));
        twenty_one = (cut_exactly (recorded 21 21) n place 22).1 (bad_group (inr (omega arith)));
        part_of_a_group = (cut_exactly (of_small 5 0 0 1) n place 22).1 (part_group (omega arith) (λ k. omega arith));
        empty_choice = (cut_exactly (of_small 4 0 2 0) n place 23).1 (empty 3 (small_grouped 0 2 0) refl);
        outside = (cut_exactly (of_small 4 0 2 0b10001) n place 23).1 (outside 3 (small_grouped 0 2 0b10001) 4 (omega arith) refl);
        reversed = (cut_exactly (of_small 4 2 1 1) n place 23).1 (reversed 3 (small_grouped 2 1 1) (omega arith));
        beyond = (cut_exactly (of_small 4 0 3 1) n place 23).1 (beyond 3 (small_grouped 0 3 1) (omega arith));
        only_22 = λ channels z. part_only channels ((cut_exactly (of_small channels 0 0 1) n place 22).0 z);
        only_23 = λ first last mask z c.
            never_23 _ n place 3 (small_grouped first last mask) c ((cut_exactly (of_small 4 first last mask) n place 23).0 z);
      }

-- ---- Cut-refused and Cut-read

unwritten : (q : Cut) (out : List ℕ) (place : ℕ) → cut_refusal q (length out) place ≢ 0 → Unwritten q out place
unwritten q out place z = let r = cut_refused q out place z in record { end = r.0; output = r.1 }

four_events_lem : events cut_of_four ≡ four_events
unfolding active sample chosen eof_on_last numbers_from groups numbers events
four_events_lem = refl

four_back : (out : List ℕ) (place : ℕ) → place + 41 ≤ length out → CutReread cut_of_four four_events out place
four_back out place l =
    let r =
    subst (λ (es : List Event). Reread es out place (cut_end cut_of_four (length out) place) (cut_output cut_of_four out place)) four_events_lem
    (cut_read_lem cut_of_four out place four_ordered.sixteen ((four_calls (length out) place).done.1 l)) in
    record { within = r.within; read = r.read; before = r.before; behind = r.behind }

pub cut_laws_met : Cut-laws-met
cut_laws_met =
    record {
      four_chosen = four_chosen;
      four_first = (four_at 0 0 (omega arith) (omega arith), four_at 0 1 (omega arith) (omega arith));
      four_second = (four_at 1 0 (omega arith) (omega arith), four_at 1 1 (omega arith) (omega arith));
      eight_chosen = eight_chosen;
      eight_first = (eight_at 0 0 (omega arith) (omega arith), eight_at 0 2 (omega arith) (omega arith));
      eight_second = (eight_at 1 1 (omega arith) (omega arith), eight_at 1 3 (omega arith) (omega arith));
      four_marked = four_marked;
      four_session = four_session;
      four_calls = four_calls;
      eight_calls = eight_calls;
      bad_calls = bad_calls;
      part_unwritten = λ out place. unwritten _ out place (λ z. omega (arith, z, (bad_calls (length out) place).part_of_a_group));
      reversed_unwritten = λ out place. unwritten _ out place (λ z. omega (arith, z, (bad_calls (length out) place).reversed));
      four_unwritten = λ out place l. unwritten _ out place (λ z. omega (arith, l, (four_calls (length out) place).done.0 z));
      four_back = four_back;
    }
