-- An outcome in numbers: refused, nothing is written; else what is written is the session.
use Prim.Native.Nat.{ℕ}
use mathlib.Core.Path.{◌≡◌, refl, sym, ◌∙◌}
use mathlib.Core.Logic.{◌≢◌}
use mathlib.Core.List.{List}
use native.Mathlib.Omega.{arith}
use lib.ListN.{length}
use Rattle.std.proofs.Common.{Result, Ok, Err}
use Rattle.std.specs.Result.{result_unwrap_or}
use Rattle.file_rules.specs.Bytes.{file_of}
use Rattle.file_rules.specs.Pieces.{Piece}
use Rattle.file_rules.specs.Writing.{events_in, write_refusal}
use Rattle.file_rules.proofs.WriteRead.{write_refused, call_ends, call_leaves}
use Rattle.cut_rules.specs.Cut.{Cut, events, cut_refusal}
use Rattle.cut_rules.proofs.Given.{cut_refused, cut_ends, cut_leaves}
use Rattle.writer.specs.declared.refusal.WriteRefusal.{WriteRefusal}
use Rattle.writer.specs.declared.refusal.WriteRefusal.TheVariants.{UnknownKind, PlacePastEnd, NoRoom, PartOfAGroup, NoChoice, FieldTooLarge, PartOfARow}
use Rattle.writer.specs.Written.{refusal_number, outcome_number, written_of}
use Rattle.writer.specs.Promises.{Writes, Cuts}

-- what is refused has a number
pub some_number : (why : WriteRefusal) → refusal_number why ≢ 0
unfolding refusal_number
some_number UnknownKind e = absurd (omega (arith, e))
some_number PlacePastEnd e = absurd (omega (arith, e))
some_number NoRoom e = absurd (omega (arith, e))
some_number PartOfAGroup e = absurd (omega (arith, e))
some_number NoChoice e = absurd (omega (arith, e))
some_number FieldTooLarge e = absurd (omega (arith, e))
some_number PartOfARow e = absurd (omega (arith, e))

module _ (xs out : List ℕ) (place : ℕ) where
  pub write_stopped : (why : WriteRefusal) → refusal_number why ≡ write_refusal xs (length out) place → Writes xs out place (written_of (Err why)) out
  unfolding written_of
  write_stopped why h =
      let none = write_refused xs out place (λ z. some_number why (h ∙ z)) in
      record { refusal = h; place_after = sym none.0; output = sym none.1 }

  pub write_done : {end : ℕ} {out' : List ℕ} → write_refusal xs (length out) place ≡ 0 → Piece out place (file_of (events_in xs)) out' end
      → Writes xs out place (written_of (Ok end)) out'
  unfolding written_of
  write_done z p =
      record {
        refusal = sym z;
        place_after = p.place ∙ sym (call_ends xs out place z);
        output = p.text ∙ sym (call_leaves xs out place z);
      }

module _ (q : Cut) (out : List ℕ) (place : ℕ) where
  pub cut_stopped : (why : WriteRefusal) → refusal_number why ≡ cut_refusal q (length out) place → Cuts q out place (written_of (Err why)) out
  unfolding written_of
  cut_stopped why h =
      let none = cut_refused q out place (λ z. some_number why (h ∙ z)) in
      record { refusal = h; place_after = sym none.0; output = sym none.1 }

  pub cut_done : {end : ℕ} {out' : List ℕ} → cut_refusal q (length out) place ≡ 0 → Piece out place (file_of (events q)) out' end
      → Cuts q out place (written_of (Ok end)) out'
  unfolding written_of
  cut_done z p =
      record {
        refusal = sym z;
        place_after = p.place ∙ sym (cut_ends q out place z);
        output = p.text ∙ sym (cut_leaves q out place z);
      }

-- ---- The same in two numbers

refusal_told : (r : Result ℕ WriteRefusal) → outcome_number r ≡ (written_of r).refusal
unfolding outcome_number written_of
refusal_told (Ok place) = refl
refusal_told (Err why) = refl

place_told : (r : Result ℕ WriteRefusal) → result_unwrap_or r 0 ≡ (written_of r).place
unfolding written_of
place_told (Ok place) = refl
place_told (Err why) = refl

module _ (r : Result ℕ WriteRefusal) {n place end : ℕ} {out out' : List ℕ} where
  pub write_told : {xs : List ℕ} → Writes xs out place (written_of r) out' → n ≡ outcome_number r → end ≡ result_unwrap_or r 0
      → Writes xs out place (record { refusal = n; place = end }) out'
  write_told w e f =
      record { refusal = e ∙ refusal_told r ∙ w.refusal; place_after = f ∙ place_told r ∙ w.place_after; output = w.output }

  pub cut_told : {q : Cut} → Cuts q out place (written_of r) out' → n ≡ outcome_number r → end ≡ result_unwrap_or r 0
      → Cuts q out place (record { refusal = n; place = end }) out'
  cut_told w e f =
      record { refusal = e ∙ refusal_told r ∙ w.refusal; place_after = f ∙ place_told r ∙ w.place_after; output = w.output }
