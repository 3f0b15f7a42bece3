-- The cuts of specs/Examples, by computation.
use mathlib.Core.Path.{◌≡◌, refl}
use mathlib.Core.Bool.{true}
use lib.ListN.{replicate}
use Rattle.rules.specs.Bits.{active, all}
use Rattle.rules.specs.Refusals.{first_of}
use Rattle.rules.proofs.Bench.{alike, alike_equal}
use Rattle.file_rules.specs.Bytes.{records_of, file_of}
use Rattle.cut_rules.specs.Cut.{sample, chosen, eof_on_last, numbers_from, groups, numbers, events, is_grouped, is_choice, cut_refusal, cut_end, cut_output}
use Rattle.cut_rules.specs.Examples.{cut_of_four, four_numbers, four_written, Cut-shown, Refusals-shown}

-- as tests: one that does not hold is told at once
chosen_true : alike (numbers cut_of_four) four_numbers ≡ true
unfolding alike active sample chosen eof_on_last numbers_from groups numbers
chosen_true = refl

output_true : alike (cut_output cut_of_four (replicate 44 0xEE) 2) four_written ≡ true
unfolding alike active all first_of records_of file_of sample chosen eof_on_last numbers_from groups numbers events is_grouped is_choice cut_refusal cut_output
output_true = refl

pub cut_shown : Cut-shown
unfolding active all first_of records_of file_of sample chosen eof_on_last numbers_from groups numbers events is_grouped is_choice cut_refusal cut_end
cut_shown =
    record {
      chosen = alike_equal (numbers cut_of_four) four_numbers chosen_true;
      refusal = refl;
      end = refl;
      output = alike_equal (cut_output cut_of_four (replicate 44 0xEE) 2) four_written output_true;
    }

pub refusals_shown : Refusals-shown
unfolding active all first_of records_of file_of sample chosen eof_on_last numbers_from groups numbers events is_grouped is_choice cut_refusal
refusals_shown =
    record {
      no_channels = refl;
      twenty_channels = refl;
      twenty_one = refl;
      part_of_a_group = refl;
      none_recorded = refl;
      none_without_channels = refl;
      empty_choice = refl;
      outside = refl;
      reversed = refl;
      beyond = refl;
      groups_before_choice = refl;
      groups_before_place = refl;
      choice_before_place = refl;
      choice_before_room = refl;
      past = refl;
      at_the_end = refl;
      one_short = refl;
      done = refl;
    }
