-- What was written is read, and what was read is written; a refused call writes nothing (specs/WritingLaws).
use Prim.Native.Nat.{ℕ, suc, ◌+◌, ◌≤◌}
use mathlib.Core.Path.{◌≡◌, refl, sym, ap, subst, ◌∙◌}
use mathlib.Core.List.{List, ◌++◌, append_assoc}
use native.Mathlib.Omega.{arith}
use borrow.Author.Tests.{eq-eqb, ne_eqb}
use lib.ListN.{length, take, drop, length-append}
use lib.Seq.{sets, sets-eq, slice, length-take-le, take_at, drop_at}
use Rattle.rules.specs.declared.Event.{Event}
use Rattle.rules.proofs.Choice.{cond_true, cond_false}
use Rattle.file_rules.specs.File.{session}
use Rattle.file_rules.specs.Bytes.{file_of, AllFit}
use Rattle.file_rules.specs.Writing.{events_in, rows_of, write_refusal, end_place, output_after}
use Rattle.file_rules.specs.WritingLaws.{done, Reread, Write-refused, Write-read, Write-back}
use Rattle.file_rules.proofs.Written.{file_read}
use Rattle.file_rules.proofs.Rewritten.{file_written, events_fit}
use Rattle.file_rules.proofs.WritesGiven.{write_exactly, rows_events, good_call}

pub write_refused : Write-refused
unfolding end_place output_after
write_refused xs out place h = (cond_false _ _ _ (ne_eqb _ 0 h), cond_false _ _ _ (ne_eqb _ 0 h))

-- ---- A file that stands in an output

module _ (out : List ℕ) (place : ℕ) (file : List ℕ) (room : place + length file ≤ length out) where
  o : List ℕ
  o = sets out place file

  head : List ℕ
  head = take place out ++ file

  parted : o ≡ head ++ drop (place + length file) out
  unfolding o head
  parted = sets-eq file out place room

  front : length (take place out) ≡ place
  front = length-take-le place out (omega arith)

  head_long : length head ≡ place + length file
  unfolding head
  head_long = omega (arith, length-append (take place out) file, front)

  stands : slice place (place + length file) o ≡ file
  unfolding head
  stands =
      ap (λ (x : List ℕ). drop place (take (place + length file) x)) parted
      ∙ ap (drop place) (take_at head _ _ head_long)
      ∙ drop_at (take place out) file place front

  before : take place o ≡ take place out
  unfolding head
  before =
      ap (take place) (parted ∙ append_assoc (take place out) file _)
      ∙ take_at (take place out) _ place front

  behind : drop (place + length file) o ≡ drop (place + length file) out
  behind = ap (drop (place + length file)) parted ∙ drop_at head _ _ head_long

-- the file of events whose fields fit: its bytes are there, and read they give the events
module _ (es : List Event) (out : List ℕ) (place : ℕ) (room : place + length (file_of es) ≤ length out) where
  pub file_stands : slice place (place + length (file_of es)) (sets out place (file_of es)) ≡ file_of es
  unfolding o
  file_stands = stands out place (file_of es) room

  pub file_reread : AllFit es → Reread es out place (place + length (file_of es)) (sets out place (file_of es))
  unfolding o
  file_reread fits =
      record {
        within = room;
        read = ap session file_stands ∙ file_read es fits;
        before = before out place (file_of es) room;
        behind = behind out place (file_of es) room;
      }

-- ---- What a call that is not refused leaves

module _ (xs out : List ℕ) (place : ℕ) (z : write_refusal xs (length out) place ≡ 0) where
  pub call_ends : end_place xs (length out) place ≡ place + length (file_of (events_in xs))
  unfolding end_place
  call_ends = cond_true _ _ _ (eq-eqb _ 0 z)

  pub call_leaves : output_after xs out place ≡ sets out place (file_of (events_in xs))
  unfolding output_after
  call_leaves = cond_true _ _ _ (eq-eqb _ 0 z)

pub write_read : Write-read
write_read xs out place z =
    let g = good_call xs (length out) place z in
    let es : List Event = events_in xs in
    let fits : AllFit es = subst AllFit (sym g.events) g.fits in
    subst (λ (end : ℕ). Reread es out place end (output_after xs out place)) (sym (call_ends xs out place z))
    (subst (Reread es out place (place + length (file_of es))) (sym (call_leaves xs out place z)) (file_reread es out place g.room fits))

pub write_back : Write-back
unfolding o session
write_back s out place bytes good room =
    let es = (session s).events in
    let same : file_of es ≡ s = file_written s bytes good in
    let all : file_of (events_in (rows_of es)) ≡ s = ap file_of (rows_events es) ∙ same in
    let fits : AllFit es = events_fit s bytes (suc (length s)) 0 in
    let z = (write_exactly (rows_of es) (length out) place 0).1 (done es fits refl (omega (arith, ap length same))) in
    let end = call_ends (rows_of es) out place z in
    let left = call_leaves (rows_of es) out place z in
    record {
      to_end = end ∙ ap (λ (x : List ℕ). place + length x) all;
      bytes =
          (λ i. slice place (end i) (left i)) ∙ stands out place (file_of (events_in (rows_of es))) (omega (arith, ap length all)) ∙ all;
    }
