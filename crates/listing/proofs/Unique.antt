-- Each promise says what every part of the outcome equals: two that do are equal.
use Rattle.rules.proofs.Equal.{determined}
use Rattle.listing.specs.Unique.{Lists-unique, ListCalled-unique}

pub lists_unique : Lists-unique
lists_unique s m out r r' n n' o o' p q =
    (determined p.answer q.answer, determined p.memory q.memory, determined p.output q.output)

pub list_called_unique : ListCalled-unique
list_called_unique s m out r r' n n' o o' p q =
    (determined p.answer q.answer, determined p.memory q.memory, determined p.output q.output)
