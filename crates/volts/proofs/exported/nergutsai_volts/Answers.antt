use mathlib.Core.Path.{◌≡◌, refl, ap, ◌∙◌}
use Rattle.std.specs.Prelude.{replicate}
use borrow.Author.Rules.{rules}
use lib.Ieee.{of_bits, binary32}
use Rattle.volt_rules.specs.Laws.{zeros}
use Rattle.volts.specs.Promises.{numbers_of}
use Rattle.volts.proofs.exported.nergutsai_volts.Goals as goal

-- refused, the sixty numbers are zero
all_zeros : replicate 60 (of_bits binary32 0) ≡ numbers_of (replicate 20 zeros)
unfolding of_bits numbers_of
all_zeros = refl

pub returns-in-Err : goal.returns-in-Err
returns-in-Err c =
    let t = c.in-Err.ensures in
    record { refusal = search rules; numbers = all_zeros ∙ ap numbers_of t.channels; memory = t.memory }
