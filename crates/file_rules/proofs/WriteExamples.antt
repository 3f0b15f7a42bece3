-- Document 01's session written, a file written back, and the refusals of a call, by computation.
use mathlib.Core.Path.{refl}
use Rattle.rules.specs.Refusals.{first_of}
use Rattle.file_rules.specs.File.{length_of, signal_of, event_of, event_at, whole_record, record_at, item_at, from, session}
use Rattle.file_rules.specs.Bytes.{records_of, file_of}
use Rattle.file_rules.specs.Writing.{sixes, events_in, rows_of, widths, fit_widths, row_refusal, first_bad, write_refusal, end_place, output_after}
use Rattle.file_rules.specs.WritingLaws.{Scope-written, Every-kind-back, Refusals-told}

pub scope_written : Scope-written
unfolding first_of length_of signal_of event_of records_of file_of sixes events_in widths fit_widths row_refusal first_bad write_refusal end_place output_after
scope_written = record { refusal = refl; end = refl; output = refl }

pub every_kind_back : Every-kind-back
unfolding length_of signal_of event_of event_at whole_record record_at item_at from session records_of file_of
    first_of sixes events_in rows_of widths fit_widths row_refusal first_bad write_refusal output_after
every_kind_back = refl

pub refusals_told : Refusals-told
unfolding first_of length_of signal_of event_of records_of file_of sixes events_in widths fit_widths row_refusal first_bad write_refusal
refusals_told =
    record {
      done = refl;
      no_events = refl;
      long_firmware = refl;
      part_of_a_row = refl;
      part_before_all = refl;
      unknown = refl;
      bad_twice = refl;
      large = refl;
      not_zero = refl;
      first_of_two = refl;
      bad_before_past = refl;
      past = refl;
      at_the_end = refl;
      one_short = refl;
    }
