-- How a listing ends, computed.
use mathlib.Core.Path.{refl}
use Rattle.listing_rules.specs.Text.{decimal_in, hex, levels_in, levels_line, file_line, tail}
use Rattle.listing_rules.specs.Laws.{Tail-refused, Tail-plain}

pub tail_refused : Tail-refused
unfolding tail file_line levels_line levels_in decimal_in hex
tail_refused = refl

pub tail_plain : Tail-plain
unfolding tail levels_line levels_in hex
tail_plain = refl
