-- Numbers of what stands at a cursor and of one record played, by computation (specs/Numbers).
use mathlib.Core.Path.{refl}
use Rattle.file_rules.specs.File.{fault_number}
use Rattle.run.specs.Numbers.{Progress-numbers}

pub progress_numbers_lem : Progress-numbers
unfolding fault_number
progress_numbers_lem = record { found = refl; over = refl; played = refl; ended = refl }
