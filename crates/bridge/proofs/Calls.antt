-- A call that is understood leaves what the step says; one that is not leaves all as it was.
use Prim.Native.Nat.{ℕ}
use mathlib.Core.Path.{◌≡◌, sym, ap, ◌∙◌}
use mathlib.Core.Bool.{cond, true, false}
use mathlib.Core.List.{List}
use borrow.Author.Tests.{eq-eqb, ne_eqb}
use lib.Dec.{eqb}
use lib.ListN.{length}
use Rattle.rules.specs.Step.{Outcome, step}
use Rattle.rules.specs.Record.{state_of}
use Rattle.rules.specs.Numbered.{answer_of}
use Rattle.rules.specs.declared.Done.{Done}
use Rattle.rules.specs.declared.Refusal.{Refusal}
use Rattle.rules.proofs.Numbered.{not_done}
use Rattle.std.proofs.Common.{Result, Ok, Err}
use Rattle.std.specs.Result.{is_ok}
use Rattle.std.proofs.lemmas.Bool.{false≢true}
use Rattle.rules.specs.Told.{Told}
use Rattle.board.specs.Promises.{Stepped}
use Rattle.board.specs.declared.Reply.{Reply}
use Rattle.file_rules.specs.Row.{event_of_row}
use Rattle.rows.specs.Places.{row_long}
use Rattle.rows.specs.Reading.{board_at}
use Rattle.rows.specs.Writing.{board_row}
use Rattle.rows.specs.Promises.{told_of}
use Rattle.bridge.specs.Types.{Board, Event}
use Rattle.bridge.specs.Calls.{Left, call_status, answer_row, left_by, left}
use Rattle.bridge.specs.Promises.{Called}

-- 01: "the given record comes back": the row of a refused event is as it was
pub row_of_done : (a : Result Done Refusal) (done r r' : List ℕ) → is_ok a ≡ true → r' ≡ done → r' ≡ cond (eqb (answer_of a).refusal 0) done r
row_of_done (Ok d) done r r' _ e = e
row_of_done (Err why) done r r' k e = absurd (false≢true k)

pub row_of_refused : (a : Result Done Refusal) (done r : List ℕ) → is_ok a ≡ false → r ≡ cond (eqb (answer_of a).refusal 0) done r
row_of_refused (Ok d) done r k = absurd (false≢true (sym k))
row_of_refused (Err why) done r _ = rw (not_done why)

pub read_whole : (row : List ℕ) (b : Board) → length row ≡ row_long → Told (told_of row) b → b ≡ board_at row
unfolding told_of
read_whole row b long told = told.told ∙ rw (eq-eqb _ _ long)

pub not_understood : (r m e a : List ℕ) (n : ℕ) → n ≡ call_status (length r) e (length a) → (n ≡ 0 → ⊥)
    → Called r m e a n r m a
unfolding left
not_understood r m e a n p z =
    let x = ne_eqb (call_status (length r) e (length a)) 0 (λ k. z (p ∙ k)) in
    record { understood = p; row = rw x; memory = rw x; answer = rw x }

understood_left : (r m e a : List ℕ) → call_status (length r) e (length a) ≡ 0
    → left_by r (step (state_of (board_at r) m) (event_of_row e)) ≡ left r m e a
unfolding left
understood_left r m e a z = rw z

-- the record, the event and the step are those of the row and of the numbers
module _ (r m e a r' m' a' : List ℕ) (b : Board) (ev : Event) (y : Reply) where
  pub understood :
      call_status (length r) e (length a) ≡ 0 → length r ≡ row_long → Told (told_of r) b → ev ≡ event_of_row e → Stepped b m ev y m'
      → a' ≡ answer_row (answer_of y.answer) → r' ≡ cond (eqb (answer_of y.answer).refusal 0) (board_row y.board) r
      → Called r m e a 0 r' m' a'
  understood z long told ee s pa pr =
      let bb = read_whole r b long told in
      let o = understood_left r m e a z in
      let w : step (state_of b m) ev ≡ step (state_of (board_at r) m) (event_of_row e) =
      λ i. step (state_of (bb i) m) (ee i) in
      let wa : answer_of y.answer ≡ (step (state_of (board_at r) m) (event_of_row e)).answer =
      s.answer ∙ ap (λ (x : Outcome). x.answer) w in
      let wb : y.board ≡ (step (state_of (board_at r) m) (event_of_row e)).state.board =
      s.board ∙ ap (λ (x : Outcome). x.state.board) w in
      record {
        understood = sym z;
        row = pr ∙ (λ i. cond (eqb (wa i).refusal 0) (board_row (wb i)) r) ∙ ap (λ (x : Left). x.row) o;
        memory = s.memory ∙ ap (λ (x : Outcome). x.state.memory) w ∙ ap (λ (x : Left). x.memory) o;
        answer = pa ∙ ap answer_row wa ∙ ap (λ (x : Left). x.answer) o;
      }
