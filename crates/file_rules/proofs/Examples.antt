-- Rows and whole files by their numbers, by computation.
use mathlib.Core.Path.{refl}
use Rattle.file_rules.specs.File.{fault_number, length_of, signal_of, event_of, event_at, whole_record, record_at, item_at, from, session}
use Rattle.file_rules.specs.Examples.{Rows-told, Files-told}

pub rows_told : Rows-told
unfolding event_of signal_of
rows_told =
    record {
      power_up_told = (refl, refl);
      write = (refl, refl);
      read = (refl, refl);
      tick = (refl, refl);
      outside = (refl, refl);
      trigger = (refl, refl);
      passed = (refl, refl);
      failed = (refl, refl);
      settled = (refl, refl);
    }

pub files_told : Files-told
unfolding fault_number length_of signal_of event_of event_at whole_record record_at item_at from session
files_told =
    record {
      no_record = (refl, refl);
      done = (refl, refl);
      empty = (refl, refl);
      version_2 = (refl, refl);
      half_length = (refl, refl);
      no_kind = (refl, refl);
      half_value = (refl, refl);
      long_length = (refl, refl);
      length_0 = (refl, refl);
      short_read = (refl, refl);
      long_tick = (refl, refl);
      kind_0 = (refl, refl);
      kind_10 = (refl, refl);
    }
