-- Each promise says what every part of the outcome equals: two that do are equal.
use mathlib.Core.Path.{ap, ◌∙◌}
use mathlib.Core.Bool.{Bool}
use Rattle.rules.specs.Clocks.{burst_after, load_after}
use Rattle.rules.proofs.Equal.{determined}
use Rattle.moves.specs.Deal.{Dealing}
use Rattle.rules.proofs.Numbered.{same_fate}
use Rattle.moves.specs.Unique.{Deals-unique, LoadsOne-unique}

pub deals_unique : Deals-unique
deals_unique mask x binary again d ls m r r' ls₁ ls₂ n n' p q =
    let same = determined p.dealt q.dealt in
    let ended = ap (λ (y : Dealing). y.ended) same in
    let bursts = determined (p.burst ∙ ap (λ (t : Bool). burst_after t x.burst) ended) q.burst in
    let loads = determined (p.load ∙ ap (λ (t : Bool). load_after t x.load) ended) q.load in
    (λ i. record { ring = (same i).ring; burst = bursts i; load = loads i }, ap (λ (y : Dealing). y.levels) same, ap (λ (y : Dealing). y.memory) same)

pub loads_one_unique : LoadsOne-unique
loads_one_unique c size ring d v m r r' n n' p q =
    let fates = same_fate _ _ (determined p.fate q.fate) in
    let rings = determined p.ring q.ring in
    (λ i. record { fate = fates i; ring = rings i }, determined p.memory q.memory)
