-- The promise says what every part of the outcome equals: two that do are equal.
use Rattle.rules.proofs.Equal.{determined}
use Rattle.rules.proofs.Numbered.{same_answer}
use Rattle.board.specs.Unique.{Stepped-unique, Answer-unique}

pub stepped_unique : Stepped-unique
stepped_unique b m e r r' n n' p q =
    let answers = same_answer r.answer r'.answer (determined p.answer q.answer) in
    let boards = determined p.board q.board in
    (λ i. record { answer = answers i; board = boards i }, determined p.memory q.memory)

pub answer_unique : Answer-unique
answer_unique = same_answer
