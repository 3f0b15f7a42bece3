-- A listing with refusals and losses, that of the empty file, and memories after files, computed: a text that differs is refused as `false`.
use Prim.Native.Nat.{ℕ}
use mathlib.Core.Path.{◌≡◌, refl}
use mathlib.Core.Bool.{true}
use mathlib.Core.List.{List, []}
use lib.ListN.{replicate}
use Rattle.rules.specs.Session.{outcomes, after}
use Rattle.rules.proofs.Open.{rules_open}
use Rattle.rules.proofs.Bench.{alike, alike_equal}
use Rattle.file_rules.specs.File.{fault_number, length_of, signal_of, event_of, event_at, whole_record, record_at, item_at, from, session}
use Rattle.listing_rules.specs.Text.{decimal_in, hex, line, levels_in, levels_line, file_line, tail}
use Rattle.listing_rules.specs.Listing.{lines, ending, listing, text, memory_after}
use Rattle.listing_rules.specs.Examples.{mixed, mixed_listing, empty_listing, Mixed-listed, Empty-listed, Memories-told}

mixed_true : alike (text mixed (replicate 16 0)) mixed_listing ≡ true
unfolding
    rules_open outcomes after alike
    fault_number length_of signal_of event_of event_at whole_record record_at item_at from session
    decimal_in hex line levels_in levels_line file_line tail
    lines ending listing text
mixed_true = refl

pub mixed_listed : Mixed-listed
mixed_listed = alike_equal _ _ mixed_true

empty_true : (m : List ℕ) → alike (text [] m) empty_listing ≡ true
unfolding
    rules_open outcomes after alike
    fault_number length_of signal_of event_of event_at whole_record record_at item_at from session
    decimal_in hex line levels_in levels_line file_line tail
    lines ending listing text
empty_true m = refl

pub empty_listed : Empty-listed
empty_listed m = alike_equal _ _ (empty_true m)

pub memories_told : Memories-told
unfolding rules_open after fault_number length_of signal_of event_of event_at whole_record record_at item_at from session memory_after
memories_told = record { refused = refl; version_2 = refl; done = refl }
