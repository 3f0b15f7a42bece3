-- What is answered once the end of the file is known.
use Prim.Native.Nat.{ℕ}
use mathlib.Core.Path.{◌≡◌, refl, ap, ◌∙◌}
use mathlib.Core.List.{List}
use borrow.Author.Tests.{lt-ltb, le-ltb}
use Rattle.std.specs.Prelude.{Option, Result, Err, ok_or}
use Rattle.file_rules.specs.declared.Fault.{Fault}
use Rattle.file_rules.specs.Item.{File, Refused}
use Rattle.file_rules.specs.File.{session, fault_number}
use Rattle.size_rules.specs.Smallest.{replays, codes, lowest, replayed}
use Rattle.size_rules.proofs.Answered.{size_cases, not_both_ends, one_fault}
use Rattle.sizes.specs.declared.refusal.SizeRefusal.{SizeRefusal}
use Rattle.sizes.specs.declared.refusal.SizeRefusal.TheVariants.{File as bad_file, NonePlays}
use Rattle.sizes.specs.Numbered.{Smallest, size_refusal_number, smallest_of}
use Rattle.sizes.specs.Replaying.{found_code, LowestTold}
use Rattle.sizes.specs.Promises.{SizeNamed}

module _ (s m : List ℕ) where
  -- it is refused, and nothing was played
  pub file_refused : (why : Fault) (p : ℕ) → (session s).end ≡ Refused why p → SizeNamed s m (smallest_of (Err (bad_file why))) m
  unfolding size_refusal_number
  file_refused why p h =
      let a =
      size_cases (λ r k left. (fault_number why ≡ r) × (0 ≡ k) × (m ≡ left)) s m
      (λ why' p' h'. (ap fault_number (one_fault _ why why' p p' h h'), refl, refl))
      (λ e _. absurd (not_both_ends _ why p e h))
      (λ e _. absurd (not_both_ends _ why p e h))
      in
      record { refusal = a.0; code = a.1; memory = a.2 }

  -- it is not, and the codes were replayed
  pub file_searched : (r : Option ℕ) (memory : List ℕ) → (session s).end ≡ File → LowestTold s m r memory → SizeNamed s m (smallest_of (ok_or r NonePlays)) memory
  unfolding size_refusal_number
  file_searched r memory h t =
      let low : ℕ = lowest (session s).events m in
      let named : ℕ → Smallest = λ k. smallest_of (ok_or (found_code k) NonePlays) in
      let a =
      size_cases (λ r c left. ((named low).refusal ≡ r) × ((named low).code ≡ c) × (replays (session s).events m (replayed low) ≡ left)) s m
      (λ why p h'. absurd (not_both_ends _ why p h h'))
      (λ _ l. rw (lt-ltb low codes l) (refl, refl, refl))
      (λ _ l. rw (le-ltb low codes l) (refl, refl, refl))
      in
      let e : ok_or r NonePlays ≡ ok_or (found_code low) NonePlays = ap (λ (x : Option ℕ). ok_or x NonePlays) t.code in
      record {
        refusal = ap (λ (x : Result ℕ SizeRefusal). (smallest_of x).refusal) e ∙ a.0;
        code = ap (λ (x : Result ℕ SizeRefusal). (smallest_of x).code) e ∙ a.1;
        memory = t.memory ∙ a.2;
      }
