-- What the loop over the groups of a cut keeps, and that it makes the session whole.
use Prim.Native.Nat.{ℕ, suc, ◌+◌, ◌*◌, ◌-◌, ◌≤◌, ◌<◌}
use mathlib.Core.Path.{◌≡◌, refl, sym, ap, ◌∙◌}
use mathlib.Core.List.{List, [], ◌∷◌, ◌++◌, map}
use native.Mathlib.Nat.{suc-mul, mul-le-mul_right, le_of_suc-le-suc, lt_of_not-le}
use native.Mathlib.Omega.{arith}
use lib.ListN.{length, get_or, drop, length-append, length-map, length-drop, get_or-append}
use lib.Seq.{get_or-append-add, get_or-take, get_or-drop, length-take-le}
use Rattle.rules.specs.declared.Event.TheVariants.{Write as write}
use Rattle.rules.specs.Bits.{active_from}
use Rattle.laws.specs.Moved.{Among}
use Rattle.laws.proofs.Actives.{active_to}
use Rattle.laws.proofs.Among.{among_head, among_tail}
use Rattle.file_rules.specs.Bytes.{bytes_of, records_of, file_of}
use Rattle.file_rules.specs.Pieces.{Piece}
use Rattle.file_rules.proofs.Joined.{then, renamed, piece_length}
use Rattle.cut_rules.specs.Cut.{Cut, sample, chosen, groups, numbers_from, numbers, events}
use Rattle.cut_rules.proofs.Given.{session_told}
use Rattle.cut_rules.proofs.ChosenNumbers.{numbers_told}
use Rattle.writer.specs.Cutting.{values_of, groups_of, picked, load_records}
use Rattle.writer.specs.Orders.{GoodOrder}
use Rattle.writer.proofs.GoodOrders.{chosen_within}
use Rattle.writer.proofs.NoBytes.{none_left}
use Rattle.writer.proofs.Marks.{loads_long, loads_append, loads_marked}

one_more : (i j c : ℕ) → i ≤ j → i * c ≤ j * c
one_more i j c h = mul-le-mul_right c h

-- ---- The numbers from a group on

-- the channels, as the loop over a group has them
abbrev group_channels : Cut → List ℕ
group_channels q = active_from 0 q.mask

abbrev numbers_on : Cut → ℕ → List ℕ
numbers_on q j = numbers_from q (chosen q) j (suc q.last - j)

module _ (q : Cut) (j : ℕ) where
  numbers_next : j ≤ q.last → map (sample q j) (group_channels q) ++ numbers_on q (suc j) ≡ numbers_on q j
  unfolding numbers_from chosen
  numbers_next l =
      let e : suc q.last - suc j ≡ q.last - j = omega arith in
      let f : suc (q.last - j) ≡ suc q.last - j = omega arith in
      ap (λ (n : ℕ). numbers_from q (chosen q) j (suc n)) e ∙ ap (numbers_from q (chosen q) j) f

  numbers_over : q.last < j → numbers_on q j ≡ []
  unfolding numbers_from
  numbers_over l = let e : suc q.last - j ≡ 0 = omega arith in ap (numbers_from q (chosen q) j) e

-- two functions that agree on the channels of a list
map_among : (f g : ℕ → ℕ) (ks : List ℕ) → ((k : ℕ) → Among k ks → f k ≡ g k) → map f ks ≡ map g ks
map_among f g [] h = refl
map_among f g (k ∷ ks) h = λ i. h k (among_head k ks) i ∷ map_among f g ks (λ j a. h j (among_tail j k ks a)) i

-- ---- A good order: where its session ends

module _ {q : Cut} (g : GoodOrder q) where
  pub values_long : length (numbers q) ≡ values_of q.first q.last q.mask
  unfolding groups
  values_long = (numbers_told q g.count g.grouped g.choice).long

  pub session_long : length (file_of (events q)) ≡ 9 + 8 * values_of q.first q.last q.mask
  session_long = omega (arith, (session_told q).bytes, values_long)

  channel_inside : (k : ℕ) → Among k (group_channels q) → k < q.channels
  channel_inside k h = g.choice.inside k (active_to 20 0 q.mask k h).0

-- ---- The loop

-- The loads of the groups before `group` are written from to₀ on, and `rest` has the numbers of the others. With those of the others all
-- loads are, and there is room for them.
pub record Cutting (q : Cut) (end : ℕ) (out₀ : List ℕ) (to₀ : ℕ) (out : List ℕ) (to : ℕ) (rest : List ℕ) (size : ℕ) : Type 0 where
  pub sized : size ≡ q.channels
  pub group : ℕ
  pub long : length rest + group * q.channels ≡ suc q.last * q.channels
  pub there : (k : ℕ) → k < length rest → get_or rest k 0 ≡ get_or q.recording (group * q.channels + k) 0
  pub ends : to + 8 * length (numbers_on q group) ≡ end
  pub room : end ≤ length out
  pub whole : (o : List ℕ) (p : ℕ)
      → Piece out to (load_records end to (numbers_on q group)) o p
      → Piece out₀ to₀ (load_records end to₀ (numbers q)) o p

module _ {q : Cut} (g : GoodOrder q) {out₀ : List ℕ} {place end : ℕ} (room : place + length (file_of (events q)) ≤ length out₀)
    (e : end ≡ place + 9 + 8 * values_of q.first q.last q.mask)
    {out₁ : List ℕ} {to₁ : ℕ} (p : Piece out₀ place (1 ∷ bytes_of (write 0x04 q.mask)) out₁ to₁) where
  -- as many numbers as from the first group to the last
  chosen_long : length (groups_of q) ≡ (q.last + 1) * q.channels - q.first * q.channels
  chosen_long =
      length-take-le _ (drop (q.first * q.channels) q.recording) (omega (arith, length-drop (q.first * q.channels) q.recording, chosen_within g))

  chosen_there : (k : ℕ) → k < length (groups_of q) → get_or (groups_of q) k 0 ≡ get_or q.recording (q.first * q.channels + k) 0
  chosen_there k l = get_or-take _ (drop (q.first * q.channels) q.recording) k 0 (omega (arith, l, chosen_long)) ∙ get_or-drop (q.first * q.channels) q.recording k 0

  numbers_end : to₁ + 8 * length (numbers q) ≡ end
  numbers_end = omega (arith, e, p.place, values_long g)

  -- behind the record of the mask
  pub cutting_start : (rest : List ℕ) (size : ℕ) → rest ≡ groups_of q → size ≡ q.channels → Cutting q end out₁ to₁ out₁ to₁ rest size
  unfolding numbers groups
  cutting_start rest size r s =
      record {
        sized = s;
        group = q.first;
        long = omega (arith, ap length r, chosen_long, one_more q.first (suc q.last) q.channels (omega (arith, g.choice.forward)));
        there = λ k l. ap (λ (ys : List ℕ). get_or ys k 0) r ∙ chosen_there k (omega (arith, l, ap length r, chosen_long));
        ends = numbers_end;
        room = omega (arith, e, piece_length p, room, session_long g);
        whole = λ o k r. r;
      }

  -- behind the last group the session is whole
  pub cutting_over : {out : List ℕ} {to : ℕ} {rest : List ℕ} {size : ℕ} → Cutting q end out₁ to₁ out to rest size → length rest < size
      → Piece out₀ place (file_of (events q)) out to
  unfolding events file_of records_of load_records
  cutting_over {out} {to} {rest} s l =
      let all : q.last < s.group = lt_of_not-le (λ h. omega (arith, l, s.sized, s.long, one_more (suc s.group) (suc q.last) q.channels (omega (arith, h)), suc-mul s.group q.channels)) in
      then p
      (renamed (loads_marked end to₁ (numbers q) numbers_end) (s.whole out to (none_left (ap (load_records end to) (numbers_over q s.group all)))))

-- a turn: the group x comes
module _ {q : Cut} (g : GoodOrder q) {end : ℕ} {out₀ : List ℕ} {to₀ : ℕ} {out : List ℕ} {to : ℕ} {rest : List ℕ} {size : ℕ}
    (s : Cutting q end out₀ to₀ out to rest size) (x rest' : List ℕ) (split : rest ≡ x ++ rest') (one : length x ≡ size) where
  -- it is one of those that are left
  left : s.group ≤ q.last
  left =
      le_of_suc-le-suc
      (lt_of_not-le (λ h. omega (arith, g.grouped.some, one, s.sized, s.long, ap length split, length-append x rest', one_more (suc q.last) s.group q.channels h)))

  -- its numbers, and those after it
  abbrev these : List ℕ
  these = picked x (group_channels q)

  abbrev others : List ℕ
  others = numbers_on q (suc s.group)

  number_there : (k : ℕ) → k < q.channels → get_or x k 0 ≡ sample q s.group k
  unfolding sample
  number_there k l = sym (get_or-append x rest' 0 k (omega (arith, l, one, s.sized))) ∙ ap (λ (ys : List ℕ). get_or ys k 0) (sym split)
      ∙ s.there k (omega (arith, l, one, s.sized, ap length split, length-append x rest'))

  both : these ++ others ≡ numbers_on q s.group
  both =
      ap (λ (ys : List ℕ). ys ++ others) (map_among (λ (k : ℕ). get_or x k 0) (sample q s.group) (group_channels q) (λ k a. number_there k (channel_inside g k a)))
      ∙ numbers_next q s.group left

  ends_later : to + 8 * length these + 8 * length others ≡ end
  ends_later = omega (arith, s.ends, ap length both, length-append these others)

  pub group_inside : (k : ℕ) → Among k (group_channels q) → k < length x
  group_inside k h = omega (arith, channel_inside g k h, one, s.sized)

  pub group_fits : to + 8 * length (group_channels q) ≤ length out
  group_fits = omega (arith, s.room, ends_later, length-map (group_channels q) (λ (k : ℕ). get_or x k 0))

  rest_there : (k : ℕ) → k < length rest' → get_or rest' k 0 ≡ get_or q.recording (suc s.group * q.channels + k) 0
  rest_there k l =
      let inside : length x + k < length rest = omega (arith, l, ap length split, length-append x rest') in
      let place : s.group * q.channels + (length x + k) ≡ suc s.group * q.channels + k = omega (arith, one, s.sized, suc-mul s.group q.channels) in
      sym (get_or-append-add x rest' k 0) ∙ ap (λ (ys : List ℕ). get_or ys (length x + k) 0) (sym split)
      ∙ s.there (length x + k) inside ∙ ap (λ (n : ℕ). get_or q.recording n 0) place

  pub cutting_next : (out' : List ℕ) (to' : ℕ) → Piece out to (load_records end to these) out' to' → (size' : ℕ) → size' ≡ size
      → Cutting q end out₀ to₀ out' to' rest' size'
  cutting_next out' to' p size' same =
      let e : to' ≡ to + 8 * length these = p.place ∙ ap (λ (n : ℕ). to + n) (loads_long end to these) in
      record {
        sized = same ∙ s.sized;
        group = suc s.group;
        long = omega (arith, s.long, one, s.sized, ap length split, length-append x rest', suc-mul s.group q.channels);
        there = λ k l. rest_there k l;
        ends = omega (arith, e, ends_later);
        room = omega (arith, s.room, piece_length p);
        whole = λ o k r.
            s.whole o k
            (renamed (loads_append end to these others ∙ ap (load_records end to) both)
            (then p (renamed (ap (λ (n : ℕ). load_records end n others) e) r)));
      }
