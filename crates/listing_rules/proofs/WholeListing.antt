-- Document 01's own listing and that of a cut file, computed; and which files are too long.
use mathlib.Core.Path.{refl}
use borrow.Author.Tests.{lt-ltb, le-ltb}
use Rattle.rules.specs.Session.{outcomes, after}
use Rattle.rules.proofs.Choice.{cond_true, cond_false}
use Rattle.rules.proofs.Open.{rules_open}
use Rattle.file_rules.specs.File.{fault_number, length_of, signal_of, event_of, event_at, whole_record, record_at, item_at, from, session}
use Rattle.listing_rules.specs.Text.{decimal_in, hex, line, levels_in, levels_line, file_line, tail}
use Rattle.listing_rules.specs.Listing.{lines, ending, listing, text}
use Rattle.listing_rules.specs.Laws.{Scope-listed, Cut-listed, Too-long, Not-too-long}

pub scope_listed : Scope-listed
unfolding
    rules_open outcomes after
    length_of signal_of event_of event_at whole_record record_at item_at from session
    decimal_in hex line levels_in levels_line file_line tail
    lines ending listing text
scope_listed = refl

pub cut_listed : Cut-listed
unfolding
    rules_open outcomes after
    fault_number length_of signal_of event_of event_at whole_record record_at item_at from session
    decimal_in hex line levels_in levels_line file_line tail
    lines ending listing text
cut_listed = refl

pub too_long : Too-long
unfolding text
too_long s m h = cond_true _ _ _ (lt-ltb _ _ h)

pub not_too_long : Not-too-long
unfolding text
not_too_long s m h = cond_false _ _ _ (le-ltb _ _ h)
