-- Each promise says what every part of the outcome equals, and each part says the answer: two outcomes are equal.
use mathlib.Core.Path.{◌≡◌, refl, sym, ap, ◌∙◌}
use mathlib.Core.Bool.{true≢false, false≢true}
use Rattle.std.specs.Prelude.{Result, Ok, Err, Option, Some, None}
use Rattle.rules.specs.Types.{Answer}
use Rattle.rules.specs.declared.Done.{Done}
use Rattle.rules.specs.declared.Event.{Event}
use Rattle.rules.specs.declared.Refusal.{Refusal}
use Rattle.rules.specs.Numbered.{answer_of}
use Rattle.rules.proofs.Equal.{determined}
use Rattle.rules.proofs.Numbered.{same_answer}
use Rattle.file_rules.specs.declared.FileError.{FileError}
use Rattle.file_rules.specs.Item.{File}
use Rattle.file_rules.proofs.Unique.{of_end, end_unique}
use Rattle.run.specs.declared.Cursor.{Cursor}
use Rattle.run.specs.Ahead.{Ahead, Found, Over, Progress, Played, Ended, ahead_of}
use Rattle.run.specs.Unique.{Ahead-unique, Progress-unique, Advances-unique, Runs-unique}
use Rattle.run.proofs.Advancing.{is_played, cursor_in, end_in}

-- ---- What stands ahead

abbrev of_ahead : Ahead → Result (Option (Event × Cursor)) FileError
of_ahead (Found e c) = Ok (Some (e, c))
of_ahead (Over end) = of_end None end

ahead_back : (r : Result (Option (Event × Cursor)) FileError) → of_ahead (ahead_of r) ≡ r
ahead_back (Ok (Some x)) = refl
ahead_back (Ok None) = refl
ahead_back (Err x) = refl

pub ahead_unique : Ahead-unique
ahead_unique r r' h = sym (ahead_back r) ∙ ap of_ahead h ∙ ahead_back r'

-- ---- One record played

abbrev answer_in : Answer → Progress → Answer
answer_in d (Played a c) = a
answer_in d (Ended x) = d

-- an end is none of a record
abbrev over : Result (Unit {0}) FileError → Result (Option (Result Done Refusal × Cursor)) FileError
over (Ok _) = Ok None
over (Err x) = Err x

pub progress_unique : Progress-unique
progress_unique (Ok (Some p)) (Ok (Some q)) h =
    let answers = same_answer p.0 q.0 (ap (answer_in (answer_of p.0)) h) in
    let cursors = ap (cursor_in p.1) h in
    λ i. Ok (Some (answers i, cursors i))
progress_unique (Ok (Some p)) (Ok None) h = absurd (true≢false (ap is_played h))
progress_unique (Ok (Some p)) (Err y) h = absurd (true≢false (ap is_played h))
progress_unique (Ok None) (Ok (Some q)) h = absurd (false≢true (ap is_played h))
progress_unique (Err x) (Ok (Some q)) h = absurd (false≢true (ap is_played h))
progress_unique (Ok None) (Ok None) h = refl
progress_unique (Ok None) (Err y) h = ap over (end_unique (Ok tt) (Err y) (ap (end_in File) h))
progress_unique (Err x) (Ok None) h = ap over (end_unique (Err x) (Ok tt) (ap (end_in File) h))
progress_unique (Err x) (Err y) h = ap over (end_unique (Err x) (Err y) (ap (end_in File) h))

-- ---- The promises

pub advances_unique : Advances-unique
advances_unique s c b m r r' n n' p q =
    let progress = progress_unique _ _ (determined p.progress q.progress) in
    let boards = determined p.board q.board in
    (λ i. record { progress = progress i; board = boards i }, determined p.memory q.memory)

pub runs_unique : Runs-unique
runs_unique s m r r' n n' p q =
    let ends = end_unique _ _ (determined p.end q.end) in
    let boards = determined p.board q.board in
    (λ i. record { end = ends i; board = boards i }, determined p.memory q.memory)
