-- Names for "all of this unfolds here", for proofs by computation: what a session file holds, and the table that it gets.
use lib.Ieee.{round, neg, lt, eq}
use Rattle.rules.proofs.Open.{rules_open}
use Rattle.file_rules.specs.File.{fault_number, length_of, signal_of, event_of, event_at, whole_record, record_at, item_at, from, session}
use Rattle.volt_rules.specs.Volts.{factor, share, volts_of}
use Rattle.volt_rules.specs.Counting.{also, is_power_up, count_event, counted}
use Rattle.volt_rules.specs.Extremes.{picked, last_of}
use Rattle.volt_rules.specs.Table.{channel, channels_from, counted_in, table_refusal, table_channels}

unfoldable pub files_open : Unit {0}
unfolding fault_number length_of signal_of event_of event_at whole_record record_at item_at from session
files_open = tt

unfoldable pub volts_open : Unit {0}
unfolding factor share volts_of round neg lt eq also is_power_up count_event counted picked last_of channel rules_open
volts_open = tt

unfoldable pub tables_open : Unit {0}
unfolding channels_from counted_in table_refusal table_channels files_open volts_open
tables_open = tt
