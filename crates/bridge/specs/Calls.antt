-- A call: a record as a row of 55 numbers, the sample memory, an event as a row of 6 (that of file_rules/specs/Row.antt), and room for an
-- answer of 4.
-- A rate question: a record as a row of 55 numbers, and room for 3 figures.
use Rattle.std.specs.Prelude.{ℕ, Bool, ◌||◌, not, cond, List, [], ◌∷◌, eqb, ltb, length}
use Rattle.rules.specs.Step.{Outcome, step}
use Rattle.rules.specs.Rates.{rates}
use Rattle.rules.specs.Record.{state_of}
use Rattle.file_rules.specs.Row.{event_of_row}
use Rattle.rows.specs.Places.{row_long}
use Rattle.rows.specs.Reading.{at, board_at}
use Rattle.rows.specs.Writing.{board_row}
use Rattle.bridge.specs.Types.{Answer, Figures}

-- kinds of events are 1 to 9
abbrev pub no_kind : ℕ → Bool
no_kind n = ltb n 1 || ltb 9 n

-- why a call is not understood, the first that holds: 1 the record, 2 the event, 3 the answer is of another length; 4 no such
-- kind of event; 0 it is understood
unfoldable pub call_status : ℕ → List ℕ → ℕ → ℕ
call_status row e answer =
    cond (not (eqb row row_long)) 1
    (cond (not (eqb (length e) 6)) 2
    (cond (not (eqb answer 4)) 3
    (cond (no_kind (at e 0)) 4 0)))

abbrev pub answer_row : Answer → List ℕ
answer_row a = a.refusal ∷ a.register ∷ a.moved ∷ a.fate ∷ []

-- what a call leaves
pub record Left : Type 0 where
  pub row : List ℕ
  pub memory : List ℕ
  pub answer : List ℕ

-- 01: "the given record comes back": the row of a refused event is as it was
abbrev pub left_by : List ℕ → Outcome → Left
left_by row o =
    record {
      row = cond (eqb o.answer.refusal 0) (board_row o.state.board) row;
      memory = o.state.memory;
      answer = answer_row o.answer;
    }

-- a call that is not understood leaves all as it was
unfoldable pub left : List ℕ → List ℕ → List ℕ → List ℕ → Left
left row memory e answer =
    cond (eqb (call_status (length row) e (length answer)) 0)
    (left_by row (step (state_of (board_at row) memory) (event_of_row e)))
    (record { row = row; memory = memory; answer = answer })

-- ---- The rate question

-- why a rate question is not understood, by the numbers that `call_status` has for it: 1 the record, 3 the room for the figures is
-- of another length; 0 it is understood, whatever the record is
unfoldable pub rate_status : ℕ → ℕ → ℕ
rate_status row figures = cond (not (eqb row row_long)) 1 (cond (not (eqb figures 3)) 3 0)

abbrev pub figures_row : Figures → List ℕ
figures_row f = f.refusal ∷ f.reference ∷ f.rate ∷ []

-- a rate question that is not understood leaves the room as it was
unfoldable pub figures_left : List ℕ → List ℕ → List ℕ
figures_left row figures = cond (eqb (rate_status (length row) (length figures)) 0) (figures_row (rates (board_at row))) figures
