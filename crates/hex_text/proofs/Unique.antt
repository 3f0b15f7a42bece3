-- The promise says what every part of the outcome equals: two that do are equal.
use Rattle.rules.proofs.Equal.{determined}
use Rattle.hex_text.specs.Unique.{Decodes-unique}

pub decodes_unique : Decodes-unique
decodes_unique text out r r' o o' p q = (determined p.answer q.answer, determined p.output q.output)
