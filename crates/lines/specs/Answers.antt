-- The four numbers that a line has of an answer, as the answer that they are.
use Rattle.rules.specs.Types.{Answer}
use Rattle.lines.specs.declared.answered.Answered.{Answered}

abbrev pub answer_in : Answered → Answer
answer_in a = record { refusal = a.refusal; register = a.register; moved = a.moved; fate = a.fate }
