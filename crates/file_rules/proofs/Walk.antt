-- A file is refused by a number at a place exactly when its walk comes to where 01 says so (specs/Laws, File-exactly).
use Prim.Native.Nat.{ℕ, zero, suc, ◌+◌, ◌≤◌, ◌<◌}
use mathlib.Core.Path.{◌≡◌, refl, sym, ap, subst, ◌∙◌}
use mathlib.Core.Logic.{◌≢◌}
use mathlib.Core.Bool.{Bool, true, false}
use mathlib.Core.List.{List, [], ◌∷◌}
use native.Mathlib.Omega.{arith}
use borrow.Author.Tests.{eq-eqb, eqb-true, eqb-false}
use lib.Dec.{eqb}
use lib.ListN.{length}
use Rattle.file_rules.specs.Item.{End}
use Rattle.file_rules.specs.Item.{Refused}
use Rattle.file_rules.specs.declared.Fault.TheVariants.{Version}
use Rattle.file_rules.specs.Item.{Item}
use Rattle.file_rules.specs.Item.{Over}
use Rattle.file_rules.specs.File.{fault_number, Verdict, verdict, byte_at, record_at, item_at, Session, on_item, from, session, Rest}
use Rattle.file_rules.specs.Laws.{Record, ended, half_length, short_body, length_zero, unknown, length_wrong, event, bad_version}
use Rattle.file_rules.specs.Laws.{Reached, opened, passed, FileGiven, not_opened, in_length, in_body, zero_length, unknown_kind, wrong_length, done, File-exactly}
use Rattle.file_rules.proofs.Lengths.{known_some}
use Rattle.file_rules.proofs.Given.{record_given, given_one, given_item, item_later}
use Rattle.file_rules.proofs.Rests.{rest_got, rest_over}

-- ---- Where the walk comes to

has_version : (s : List ℕ) → byte_at s 0 ≡ 1 → 1 ≤ length s
has_version [] h = absurd (omega (arith, h))
has_version (x ∷ xs) h = omega arith

-- a place that it comes to is in the file, behind the version byte
pub reached_within : (s : List ℕ) (at : ℕ) → Reached s at → (0 < at) × (at ≤ length s)
reached_within s at (opened h) = (omega arith, has_version s h)
reached_within s at (passed p r w k) = (omega arith, w)

pub reached_item : (s : List ℕ) (at : ℕ) → Reached s at → item_at s at ≡ record_at s at
reached_item s at r = item_later s at (λ z. omega (arith, (reached_within s at r).0))

-- from there on the session ends as the whole one
pub record Onward (s : List ℕ) (at : ℕ) (x : Session) : Type 0 where
  pub rest : Rest s at x
  pub ends : x.end ≡ (session s).end

-- behind a good version byte the whole session stands
pub session_opened : (s : List ℕ) → byte_at s 0 ≡ 1 → session s ≡ from (suc (length s)) s 1
unfolding session from item_at
session_opened s h = rw (eq-eqb (byte_at s 0) 1 h)

onward : (s : List ℕ) (at : ℕ) → Reached s at → (x : Session) × Onward s at x
onward s at (opened h) = (
  session s,
  record {
    rest = record { within = has_version s h; fuel = suc (length s); enough = omega arith; is = session_opened s h };
    ends = refl;
  },
)
onward s at (passed p r w k) =
    let x = onward s p r in
    let e = reached_item s p r ∙ record_given s p _ (event w k) in
    let y = rest_got s p x.0 x.1.rest _ _ e in
    (y.0, record { rest = y.1; ends = sym y.3 ∙ x.1.ends })

-- ---- Where it comes to a refusal, the file is refused so

over_ends : (s : List ℕ) (at : ℕ) (z : End) → Reached s at → Record s at (Over z) → (session s).end ≡ z
over_ends s at z r h =
    let x = onward s at r in
    sym x.1.ends ∙ (rest_over s at x.0 x.1.rest z (reached_item s at r ∙ record_given s at _ h)).1

-- and without a good version byte at once
pub version_ends : (s : List ℕ) → byte_at s 0 ≢ 1 → (session s).end ≡ Refused Version 0
unfolding session from
version_ends s h = ap (λ (i : Item). (on_item (from (length s) s) i).end) (given_item s 0 _ (bad_version h))

given_file : (s : List ℕ) (n p : ℕ) → FileGiven s n p → verdict (session s).end ≡ record { number = n; place = p }
unfolding fault_number
given_file s n p (not_opened h) = ap verdict (version_ends s h)
given_file s n p (in_length at r a b) = ap verdict (over_ends s at _ r (half_length a b))
given_file s n p (in_body at r a b) = ap verdict (over_ends s at _ r (short_body a b))
given_file s n p (zero_length at r w z) = ap verdict (over_ends s at _ r (length_zero w z))
given_file s n p (unknown_kind at r w z u) = ap verdict (over_ends s at _ r (unknown w z u))
given_file s n p (wrong_length at m r w z k e) = ap verdict (over_ends s at _ r (length_wrong m w z k e))
given_file s n p (done at r h) = ap verdict (over_ends s at _ r (ended h))

-- ---- It always comes to one of them

abbrev EndTold : List ℕ → End → Type 0
EndTold s e = FileGiven s (verdict e).number (verdict e).place

-- by the record at a place; `rest` is what is told from a later one on
told_record : (s : List ℕ) (f at : ℕ) → Reached s at
    → ((next : ℕ) → Reached s next → at + 3 ≤ next → EndTold s (from f s next).end)
    → (i : Item) → Record s at i → EndTold s (on_item (from f s) i).end
unfolding fault_number
told_record s f at r rest i (ended h) = done at r h
told_record s f at r rest i (half_length a b) = in_length at r a b
told_record s f at r rest i (short_body a b) = in_body at r a b
told_record s f at r rest i (length_zero w z) = zero_length at r w z
told_record s f at r rest i (unknown w z u) = unknown_kind at r w z u
told_record s f at r rest i (length_wrong n w z k e) = wrong_length at n r w z k e
told_record s f at r rest i (event w k) = rest _ (passed at r w k) (omega (arith, known_some _ _ k))

told_from : (f : ℕ) (s : List ℕ) (at : ℕ) → Reached s at → length s < at + f → EndTold s (from f s at).end
unfolding from
told_from zero s at r l = absurd (omega (arith, (reached_within s at r).1))
told_from (suc f) s at r l =
    subst (λ (i : Item). EndTold s (on_item (from f s) i).end) (sym (reached_item s at r))
    (told_record s f at r (λ next q g. told_from f s next q (omega arith)) (record_at s at) (given_one s at))

told_file : (s : List ℕ) → EndTold s (session s).end
unfolding fault_number
told_file s = go (eqb (byte_at s 0) 1) refl
  where
    go : (t : Bool) → eqb (byte_at s 0) 1 ≡ t → EndTold s (session s).end
    go true e =
        let h = eqb-true (byte_at s 0) 1 e in
        subst (λ (x : Session). EndTold s x.end) (sym (session_opened s h)) (told_from (suc (length s)) s 1 (opened h) (omega arith))
    go false e =
        let h = eqb-false (byte_at s 0) 1 e in
        subst (EndTold s) (sym (version_ends s h)) (not_opened h)

pub file_exactly : File-exactly
file_exactly s n p = (
  λ e. subst (λ (v : Verdict). FileGiven s v.number v.place) e (told_file s),
  given_file s n p,
)
