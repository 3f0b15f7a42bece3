-- A file with a record of each kind, by computation.
use mathlib.Core.Path.{refl}
use Rattle.file_rules.specs.File.{length_of, signal_of, event_of, event_at, whole_record, record_at, item_at, from, session}
use Rattle.file_rules.specs.Laws.{Every-kind}

pub every_kind_lem : Every-kind
unfolding length_of signal_of event_of event_at whole_record record_at item_at from session
every_kind_lem = record { events = refl; end = refl }
