-- Each promise says what every part of the outcome equals: two that do are equal.
use mathlib.Core.Path.{sym, ◌∙◌}
use Rattle.reader.specs.Unique.{Opened-unique}

pub opened_unique : Opened-unique
opened_unique bytes place r r' p q =
    let same = p.bytes ∙ sym q.bytes in
    let there = p.place ∙ sym q.place in
    λ i. record { bytes = same i; place = there i }
