-- The examples, by computation.
use mathlib.Core.Path.{◌≡◌, refl}
use mathlib.Core.Bool.{true}
use Rattle.rules.proofs.Open.{rules_open}
use Rattle.rules.proofs.Bench.{alike, showing, all_true, cases_shown}
use Rattle.size_rules.specs.Coded.{sized, sized_all}
use Rattle.demand3.specs.Demand3.{loses_nothing}
use Rattle.size_rules.specs.Smallest.{replays, plays_in_turn, lowest_from, lowest}
use Rattle.size_rules.specs.Examples.{numbered, code_named, memory_left, examples, Sizes-shown}

examples_true : all_true examples ≡ true
unfolding alike showing all_true examples numbered code_named memory_left sized sized_all loses_nothing replays plays_in_turn lowest_from lowest rules_open
examples_true = refl

pub sizes_shown : Sizes-shown
sizes_shown = cases_shown examples examples_true
