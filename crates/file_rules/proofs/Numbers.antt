-- Items in numbers, by computation (specs/Numbers).
use mathlib.Core.Path.{refl}
use Rattle.file_rules.specs.File.{fault_number, length_of, signal_of, event_of, event_at, whole_record, record_at, item_at}
use Rattle.file_rules.specs.Numbers.{Items-in-numbers}

pub items_in_numbers : Items-in-numbers
unfolding fault_number length_of signal_of event_of event_at whole_record record_at item_at
items_in_numbers = record { first = refl; later = refl; end = refl; cut = refl }
