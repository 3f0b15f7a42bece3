-- The session of a cut, and which calls are refused (specs/Laws, Session-told, Cut-exactly, Cut-refused).
use Prim.Native.Nat.{ℕ, zero, suc, ◌+◌, ◌*◌, ◌/◌, ◌%◌, ◌^◌, ◌≤◌, ◌<◌}
use mathlib.Core.Path.{◌≡◌, refl, sym, ap, subst, ◌∙◌}
use mathlib.Core.Logic.{◌≢◌, inl, inr}
use mathlib.Core.Bool.{Bool, true, false, not, true≢false}
use mathlib.Core.List.{List, [], ◌∷◌, map}
use native.Mathlib.Nat.{div-add-mod', mul-mod_left, mul-div_cancel, le-div_iff_mul-le, pow-suc}
use native.Mathlib.Omega.{arith}
use borrow.Author.Tests.{ltb-true, ltb-false, leb-true, leb-false, le-leb, lt-ltb, eq-eqb, ne_eqb, eqb-true, eqb-false}
use lib.Dec.{leb, ltb, eqb}
use lib.Count.{ones}
use lib.ListN.{length, length-map}
use lib.Pow.{pow_pos}
use lib.Seq.{sets}
use Rattle.rules.specs.declared.Event.TheVariants.{Write as write, Read as read}
use Rattle.rules.specs.Bits.{bit, all}
use Rattle.rules.specs.Refusals.{first_of}
use Rattle.rules.proofs.Choice.{cases, cond_true, cond_false, all_cons, not_true, not_false, not_not, not_both}
use Rattle.rules.proofs.Masks.{below_bits, bit_below, below_pow, bit_shift, bit_even, bit_suc}
use Rattle.file_rules.specs.Bytes.{records_of, file_of}
use Rattle.file_rules.proofs.WritesGiven.{decided, past_decided, short_decided, room_decided}
use Rattle.cut_rules.specs.Cut.{Cut, chosen, groups, numbers, eof_on_last, events, is_grouped, is_choice, cut_refusal, cut_end, cut_output}
use Rattle.cut_rules.specs.Laws.{Grouped, GoodChoice, Session-told, CutGiven, bad_group, part_group, empty, outside, reversed, beyond, past_end, too_long, done, Cut-exactly, Cut-refused}
use Rattle.cut_rules.proofs.Lists.{map_at, eof_told}
use Rattle.cut_rules.proofs.ChosenNumbers.{chosen_ones, numbers_long}

-- ---- The session

loads_long : (ws : List ℕ) → length (records_of (map (write 0x18) ws)) ≡ 8 * length ws
unfolding records_of
loads_long [] = refl
loads_long (w ∷ ws) = omega (arith, loads_long ws)

pub session_told : Session-told
unfolding events file_of records_of
session_told q =
    let l = (eof_told (numbers q)).long in
    record {
      many = omega (arith, l, length-map (eof_on_last (numbers q)) (write 0x18));
      mask = refl;
      load = λ i k. map_at (write 0x18) (eof_on_last (numbers q)) i (read 0) (omega (arith, l));
      bytes = omega (arith, l, loads_long (eof_on_last (numbers q)));
    }

-- ---- The tests are the words

-- a number below 2 to the n has no bit from n up
pub bits_inside : (n v : ℕ) → v < 2 ^ n → (k : ℕ) → bit k v ≡ true → k < n
bits_inside n v l k t = ltb-true k n (not_false _ (λ f. true≢false (sym t ∙ bit_below n k v l (ltb-false k n f))))

module _ (q : Cut) where
  -- the groups of the recording, where it has whole ones
  abbrev count : ℕ
  count = length q.recording / q.channels

  pub grouped_to : is_grouped q ≡ true → Grouped q count
  unfolding is_grouped
  grouped_to h =
      let a = all_cons (leb 1 q.channels) _ h in
      let b = all_cons (leb q.channels 20) _ a.1 in
      record {
        some = leb-true 1 q.channels a.0;
        most = leb-true q.channels 20 b.0;
        whole = omega (arith, div-add-mod' (length q.recording) q.channels, eqb-true (length q.recording % q.channels) 0 (all_cons _ [] b.1).0);
      }

  module _ (g : ℕ) (h : Grouped q g) where
    grouped_from : is_grouped q ≡ true
    unfolding is_grouped all
    grouped_from =
        let z : length q.recording % q.channels ≡ 0 = ap (λ (n : ℕ). n % q.channels) h.whole ∙ mul-mod_left g q.channels in
        rw (le-leb 1 q.channels h.some, le-leb q.channels 20 h.most, eq-eqb _ 0 z) refl

    pub grouped_count : count ≡ g
    grouped_count = ap (λ (n : ℕ). n / q.channels) h.whole ∙ mul-div_cancel g h.some

  pub choice_to : is_choice q ≡ true → GoodChoice q count
  unfolding is_choice
  choice_to h =
      let a = all_cons (not (eqb q.mask 0)) _ h in
      let b = all_cons (ltb q.mask (2 ^ q.channels)) _ a.1 in
      let c = all_cons (leb q.first q.last) _ b.1 in
      record {
        some = eqb-false q.mask 0 (not_true _ (not_both _ a.0));
        inside = bits_inside q.channels q.mask (ltb-true _ _ b.0);
        forward = leb-true _ _ c.0;
        within = ltb-true _ _ (all_cons _ [] c.1).0;
      }

  choice_from : GoodChoice q count → is_choice q ≡ true
  unfolding is_choice all
  choice_from h =
      rw (
        ne_eqb q.mask 0 h.some,
        lt-ltb q.mask _ (below_bits q.channels q.mask h.inside),
        le-leb _ _ h.forward,
        lt-ltb _ _ h.within,
      ) refl

  -- how long the session is
  session_long : (g : ℕ) → Grouped q g → GoodChoice q g → length (file_of (events q)) ≡ 1 + 8 * (1 + groups q * ones q.mask)
  session_long g h c =
      let m : groups q * length (chosen q) ≡ groups q * ones q.mask = ap (λ (n : ℕ). groups q * n) (chosen_ones q g h c) in
      omega (arith, (session_told q).bytes, numbers_long q, m)

-- a number that is not 0 has a bit
some_bit : (n v : ℕ) → v < 2 ^ n → v ≢ 0 → (k : ℕ) × (bit k v ≡ true)
some_bit zero v l z = absurd (z (omega arith))
some_bit (suc n) v l z = go (bit 0 v) refl (λ h. some_bit n (v / 2) (omega (arith, pow-suc 2 n)) h)
  where
    go : (t : Bool) → bit 0 v ≡ t → (v / 2 ≢ 0 → (k : ℕ) × (bit k (v / 2) ≡ true)) → (k : ℕ) × (bit k v ≡ true)
    go true e f = (0, e)
    go false e f = let r = f (λ h. z (omega (arith, bit_even v e))) in (suc r.0, bit_suc r.0 v ∙ r.1)

-- one from n up, if it is not below 2 to the n
bit_from : (n v : ℕ) → 2 ^ n ≤ v → (k : ℕ) × (n ≤ k) × (bit k v ≡ true)
bit_from n v l =
    let m = v / 2 ^ n in
    let r = some_bit m m (below_pow m) (λ z. omega (arith, z, (le-div_iff_mul-le {x = 1} {y = v} (pow_pos n)).1 (omega arith))) in
    (n + r.0, omega arith, bit_shift n r.0 v ∙ r.1)

-- ---- One of the lines is always given

module _ (q : Cut) (n place : ℕ) where
  abbrev TellsOf : ℕ → Type 0
  TellsOf = CutGiven q n place

  pub not_grouped : is_grouped q ≡ false → TellsOf 22
  unfolding is_grouped all
  not_grouped h = go (leb 1 q.channels) refl (leb q.channels 20) refl (eqb (length q.recording % q.channels) 0) refl h
    where
      go : (a : Bool) → leb 1 q.channels ≡ a → (b : Bool) → leb q.channels 20 ≡ b
          → (c : Bool) → eqb (length q.recording % q.channels) 0 ≡ c → all (a ∷ b ∷ c ∷ []) ≡ false → TellsOf 22
      go false e b f c g _ = let l = leb-false 1 q.channels e in bad_group (inl (omega arith))
      go true e false f c g _ = bad_group (inr (leb-false q.channels 20 f))
      go true e true f false g _ =
          part_group (leb-true 1 q.channels e)
          (λ k w. eqb-false _ 0 g (ap (λ (m : ℕ). m % q.channels) w ∙ mul-mod_left k q.channels))
      go true e true f true g h = absurd (true≢false h)

  pub not_chosen : Grouped q (count q) → is_choice q ≡ false → TellsOf 23
  unfolding is_choice all
  not_chosen g h =
      go (eqb q.mask 0) refl (ltb q.mask (2 ^ q.channels)) refl (leb q.first q.last) refl (ltb q.last (count q)) refl h
    where
      go : (a : Bool) → eqb q.mask 0 ≡ a → (b : Bool) → ltb q.mask (2 ^ q.channels) ≡ b → (c : Bool) → leb q.first q.last ≡ c
          → (d : Bool) → ltb q.last (count q) ≡ d → all (not a ∷ b ∷ c ∷ d ∷ []) ≡ false → TellsOf 23
      go true e b f c i d j _ = empty _ g (eqb-true q.mask 0 e)
      go false e false f c i d j _ = let r = bit_from q.channels q.mask (ltb-false _ _ f) in outside _ g r.0 r.1 r.2
      go false e true f false i d j _ = reversed _ g (leb-false _ _ i)
      go false e true f true i false j _ = beyond _ g (ltb-false _ _ j)
      go false e true f true i true j h = absurd (true≢false h)

  given : TellsOf (cut_refusal q n place)
  unfolding cut_refusal first_of
  given =
      cases TellsOf (not (is_grouped q)) (λ h. not_grouped (not_true _ (not_both _ h))) (λ h.
      let g = grouped_to q (not_not _ h) in
      cases TellsOf (not (is_choice q)) (λ h. not_chosen g (not_true _ (not_both _ h))) (λ h.
      let c = choice_to q (not_not _ h) in
      let l = session_long q (count q) g c in
      cases TellsOf (ltb n place) (λ t. past_end _ g c (ltb-true _ _ t)) (λ u.
      cases TellsOf (ltb n (place + length (file_of (events q))))
      (λ t. too_long _ g c (ltb-false _ _ u) (omega (arith, l, ltb-true n (place + length (file_of (events q))) t)))
      (λ t. done _ g c (omega (arith, l, ltb-false n (place + length (file_of (events q))) t))))))

  -- ---- From the table to the number

  bad_groups : (Grouped q (count q) → ⊥) → cut_refusal q n place ≡ 22
  unfolding cut_refusal first_of
  bad_groups f = cond_true _ _ _ (ap not (not_true (is_grouped q) (λ h. f (grouped_to q h))))

  module _ (g : ℕ) (h : Grouped q g) where
    bad_choice : (GoodChoice q g → ⊥) → cut_refusal q n place ≡ 23
    unfolding cut_refusal first_of
    bad_choice f =
        cond_false _ _ _ (ap not (grouped_from q g h))
        ∙ cond_true _ _ _ (ap not (not_true (is_choice q) (λ c. f (subst (GoodChoice q) (grouped_count q g h) (choice_to q c)))))

    module _ (c : GoodChoice q g) where
      long : length (file_of (events q)) ≡ 1 + 8 * (1 + groups q * ones q.mask)
      long = session_long q g h c

      by_place : cut_refusal q n place ≡ decided 0 n place (length (file_of (events q)))
      unfolding cut_refusal first_of decided
      by_place =
          cond_false _ _ _ (ap not (grouped_from q g h))
          ∙ cond_false _ _ _ (ap not (choice_from q (subst (GoodChoice q) (sym (grouped_count q g h)) c)))

  number : (m : ℕ) → TellsOf m → cut_refusal q n place ≡ m
  number m (bad_group (inl e)) = bad_groups (λ g. omega (arith, g.some, e))
  number m (bad_group (inr l)) = bad_groups (λ g. omega (arith, g.most, l))
  number m (part_group l f) = bad_groups (λ g. f (count q) g.whole)
  number m (empty g h e) = bad_choice g h (λ c. c.some e)
  number m (outside g h k l t) = bad_choice g h (λ c. omega (arith, c.inside k t, l))
  number m (reversed g h l) = bad_choice g h (λ c. omega (arith, c.forward, l))
  number m (beyond g h l) = bad_choice g h (λ c. omega (arith, c.within, l))
  number m (past_end g h c l) = by_place g h c ∙ past_decided n place _ l
  number m (too_long g h c l k) = by_place g h c ∙ short_decided n place _ l (omega (arith, long g h c, k))
  number m (done g h c k) = by_place g h c ∙ room_decided n place _ (omega (arith, long g h c, k))

pub cut_exactly : Cut-exactly
cut_exactly q n place m = (λ e. subst (CutGiven q n place) e (given q n place), number q n place m)

-- ---- What comes of a call

pub cut_refused : Cut-refused
unfolding cut_end cut_output
cut_refused q out place h = (cond_false _ _ _ (ne_eqb _ 0 h), cond_false _ _ _ (ne_eqb _ 0 h))

module _ (q : Cut) (out : List ℕ) (place : ℕ) (z : cut_refusal q (length out) place ≡ 0) where
  pub cut_ends : cut_end q (length out) place ≡ place + length (file_of (events q))
  unfolding cut_end
  cut_ends = cond_true _ _ _ (eq-eqb _ 0 z)

  pub cut_leaves : cut_output q out place ≡ sets out place (file_of (events q))
  unfolding cut_output
  cut_leaves = cond_true _ _ _ (eq-eqb _ 0 z)

-- a call that is not refused: the order is good, and there is room
pub record GoodCut (q : Cut) (n place : ℕ) : Type 0 where
  pub count : ℕ
  pub grouped : Grouped q count
  pub choice : GoodChoice q count
  pub room : place + length (file_of (events q)) ≤ n

pub good_cut : (q : Cut) (n place : ℕ) → cut_refusal q n place ≡ 0 → GoodCut q n place
good_cut q n place z = go ((cut_exactly q n place 0).0 z)
  where
    go : CutGiven q n place 0 → GoodCut q n place
    go (done g h c k) = record { count = g; grouped = h; choice = c; room = omega (arith, session_long q g h c, k) }
