-- The promise says what the place and the output equal: two outcomes that do are equal.
use Rattle.rules.proofs.Equal.{determined}
use Rattle.lines.specs.Unique.{Printed-unique}

pub printed_unique : Printed-unique
printed_unique n out at text r r' o o' p q = (determined p.place q.place, determined p.output q.output)
