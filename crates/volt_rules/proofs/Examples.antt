-- The examples, by computation.
use mathlib.Core.Path.{◌≡◌, refl}
use mathlib.Core.Bool.{true}
use Rattle.rules.proofs.Bench.{alike, showing, all_true, cases_shown}
use Rattle.volt_rules.specs.Examples.{scaled, volts, examples, Volts-shown}
use Rattle.volt_rules.proofs.Open.{volts_open}

examples_true : all_true examples ≡ true
unfolding alike showing all_true examples scaled volts volts_open
examples_true = refl

pub volts_shown : Volts-shown
volts_shown = cases_shown examples examples_true
