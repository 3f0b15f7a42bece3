-- The instances of the theorems on the listing (specs/Instances).
use Prim.Native.Nat.{ℕ, zero, suc, ◌^◌, ◌≤◌, ◌<◌}
use mathlib.Core.Path.{◌≡◌, refl, sym, ap, ◌∙◌}
use mathlib.Core.Logic.{◌≢◌}
use mathlib.Core.Bool.{true}
use mathlib.Core.List.{List, [], ◌∷◌, ◌++◌}
use native.Mathlib.Omega.{arith}
use lib.Dec.{lit<, lit≤}
use lib.ListN.{length, get_or, replicate, length-replicate}
use Rattle.rules.specs.Types.{Answer}
use Rattle.rules.specs.declared.Event.{Event}
use Rattle.rules.specs.declared.Event.TheVariants.{PowerUp, Write, Read}
use Rattle.rules.specs.Record.{start}
use Rattle.rules.specs.Session.{outcomes, after}
use Rattle.rules.proofs.Open.{rules_open}
use Rattle.rules.proofs.Bench.{alike, alike_equal}
use Rattle.file_rules.specs.declared.Fault.TheVariants.{Version, Kind}
use Rattle.file_rules.specs.Item.{Refused}
use Rattle.file_rules.specs.Bytes.{records_of, file_of, AllFit, none, next}
use Rattle.file_rules.specs.File.{fault_number, byte_at, length_of, signal_of, event_of, event_at, whole_record, record_at, item_at, Session, on_item, from, session}
use Rattle.file_rules.specs.Laws.{bad_version}
use Rattle.file_rules.proofs.Given.{item_exactly}
use Rattle.basics.specs.Ascii.{ascii, space}
use Rattle.listing_rules.specs.Text.{heading, decimal_in, hex, line, levels_in, levels_line}
use Rattle.listing_rules.specs.Listing.{levels_of, body, listing, text, memory_after}
use Rattle.listing_rules.specs.LineLaws.{cut_behind, LinesListed, InDecimal, LineSays, LevelsSaid, last, level}
use Rattle.listing_rules.specs.Left.{LeftRefused}
use Rattle.listing_rules.specs.Examples.{empty_listing, refused_behind_loads}
use Rattle.listing_rules.proofs.Examples.{empty_listed}
use Rattle.instances.specs.Listing.{Numbers-met, two_refused, Plain, FieldsSaid, LevelsRead, Lines-met, zero_bytes, Lengths-met, good_loads, nine_entries, mid_levels, Left-met}
use Rattle.listing_rules.proofs.Numbers.{decimal_said, decimal_plain, hex_said, hex_long}
use Rattle.listing_rules.proofs.WholeListing.{too_long, not_too_long}
use Rattle.listing_rules.proofs.LinesListed.{lines_listed}
use Rattle.listing_rules.proofs.LineSays.{line_says, levels_say}
use Rattle.listing_rules.proofs.Left.{too_long_memory, refused_left}

-- ---- Numbers

pub numbers_met : Numbers-met
unfolding decimal_in hex
numbers_met =
    record {
      none_said = decimal_said 0 (lit< tt);
      ten_said = decimal_said 10 (lit< tt);
      most_said = decimal_said 0xFFFFFFFF (lit< tt);
      ten_plain = decimal_plain 10 (lit< tt) (lit< tt);
      most_plain = decimal_plain 0xFFFFFFFF (lit< tt) (lit< tt);
      four_said = hex_said 4 0x0AF9 (lit< tt);
      eight_said = hex_said 8 0xFFFFFFFF (lit< tt);
      none_long = hex_long 8 0;
      four_long = hex_long 4 0x12345;
    }

-- ---- Lines

bad_range : Event
bad_range = PowerUp (record { fitted = 0; range = 3; filter = 0; kit = 0; firmware = 0 })

two_refused_lem : (m : List ℕ) → LinesListed two_refused m (Read 0x0C ∷ bad_range ∷ [])
unfolding bad_range length_of signal_of event_of event_at whole_record record_at item_at from session
two_refused_lem m = lines_listed two_refused m

plain_of : (n : ℕ) (digits : List ℕ) → InDecimal n digits → Plain digits
plain_of n digits x = (x.some, x.plain)

-- the clauses of Line-says, one after the other
fields_said : (k count : ℕ) (a : Answer) (l : List ℕ)
    → LineSays k a count l → FieldsSaid l k a.refusal a.register a.moved a.fate count
fields_said k count a l x = (
  x.number_field,
  x.refusal_field,
  x.register_field,
  x.moved_field,
  x.fate_field,
  x.count_field,
  x.fields,
  x.number_said.says,
  plain_of _ _ x.number_said,
  x.refusal_said.says,
  plain_of _ _ x.refusal_said,
  x.register_said.says,
  x.register_said.eight,
  x.moved_said.says,
  plain_of _ _ x.moved_said,
  x.fate_said.says,
  plain_of _ _ x.fate_said,
  x.count_said.says,
  plain_of _ _ x.count_said,
)

some_line : LineSays 28 (record { refusal = 17; register = 0x290123; moved = 10; fate = 3 }) 11 (ascii "28 17 00290123 10 3 11\n")
unfolding line decimal_in hex
some_line = line_says 28 _ 11 (lit< tt) (lit< tt) (lit< tt) (lit< tt) (lit< tt) (lit< tt)

most_answer : Answer
most_answer = record { refusal = 0xFFFFFFFF; register = 0xFFFFFFFF; moved = 0xFFFFFFFF; fate = 0xFFFFFFFF }

most_line : LineSays 0xFFFFFFFF most_answer 0xFFFFFFFF (ascii "4294967295 4294967295 FFFFFFFF 4294967295 4294967295 4294967295\n")
unfolding most_answer line decimal_in hex
most_line = line_says 0xFFFFFFFF most_answer 0xFFFFFFFF (lit< tt) (lit< tt) (lit< tt) (lit< tt) (lit< tt) (lit< tt)

two_below : (i : ℕ) → get_or (0x9000 ∷ 0x0BEF ∷ []) i 0 < 2 ^ 16
two_below zero = lit< tt
two_below (suc zero) = lit< tt
two_below (suc (suc i)) = lit< tt

two_said : (x y : ℕ) (l : List ℕ) (ps : List (List ℕ))
    → cut_behind space l ≡ ascii "LEVELS " ∷ ps
    → LevelsSaid (x ∷ y ∷ []) ps
    → LevelsRead l x y
two_said x y l ps e (level _ a xs qs p q (last _ b r s)) = (a, b, e, p, q, r, s)
two_said x y l ps e (level _ a xs qs p q (level _ b ys rs r s nothing)) = elim nothing [ ]

two_levels : LevelsRead (ascii "LEVELS 9000 0BEF\n") 0x9000 0x0BEF
unfolding hex levels_in levels_line
two_levels = let h = levels_say 0x9000 (0x0BEF ∷ []) two_below in two_said 0x9000 0x0BEF _ h.0 h.1 h.2

pub lines_met : Lines-met
unfolding
    bad_range most_answer rules_open outcomes after
    fault_number length_of signal_of event_of event_at whole_record record_at item_at from session
    decimal_in hex line levels_in levels_line
lines_met =
    record {
      heading = λ m. (two_refused_lem m).heading;
      first = λ m. (two_refused_lem m).events [] (bad_range ∷ []) (Read 0x0C) refl;
      second = λ m. (two_refused_lem m).events (Read 0x0C ∷ []) [] bad_range refl;
      refusal = λ m. ((two_refused_lem m).refused Kind 14 refl).1;
      levels = λ m. ((two_refused_lem m).refused Kind 14 refl).2;
      five = λ m. ((two_refused_lem m).refused Kind 14 refl).0;
      whole_levels = λ m. ((lines_listed (0x01 ∷ []) m).whole refl).1;
      whole_two = λ m. ((lines_listed (0x01 ∷ []) m).whole refl).0;
      some_said = fields_said 28 11 _ _ some_line;
      most_said = fields_said 0xFFFFFFFF 0xFFFFFFFF most_answer _ most_line;
      levels_said = two_levels;
    }

-- ---- Lengths

zero_first : (n : ℕ) → byte_at (zero_bytes n) 0 ≢ 1
unfolding zero_bytes
zero_first zero e = omega (arith, e)
zero_first (suc n) e = omega (arith, e)

unopened : (s : List ℕ) → byte_at s 0 ≢ 1 → session s ≡ record { events = []; end = Refused Version 0 }
unfolding session from
unopened s h = ap (on_item (from (length s) s)) ((item_exactly s 0 _).1 (bad_version h))

-- a file that is not too long and does not begin with 01 is listed as the empty one
unopened_listed : (s m : List ℕ) → length s ≤ 65536 → byte_at s 0 ≢ 1 → text s m ≡ empty_listing
unfolding listing
unopened_listed s m short h =
    not_too_long s m short
    ∙ ap (λ (x : Session). heading ++ body 1 (start m) x) (unopened s h ∙ sym (unopened [] (λ e. omega (arith, e))))
    ∙ sym (not_too_long [] m (lit≤ tt))
    ∙ empty_listed m

zeros_long : (n : ℕ) → length (zero_bytes n) ≡ n
unfolding zero_bytes
zeros_long n = length-replicate {0} {A = ℕ} n 0

pub lengths_met : Lengths-met
lengths_met =
    record {
      longest = λ m. unopened_listed (zero_bytes 65536) m (omega (arith, zeros_long 65536)) (zero_first 65536);
      longer = λ m. too_long (zero_bytes 65537) m (omega (arith, zeros_long 65537));
      memory = λ m. too_long_memory (zero_bytes 65537) m (omega (arith, zeros_long 65537));
    }

-- ---- What is left

load_events : List Event
load_events = PowerUp (record { fitted = 0; range = 0; filter = 0; kit = 0; firmware = 0 }) ∷ Write 0x18 5 ∷ Write 0x18 0x10006 ∷ []

loads_fit : AllFit load_events
unfolding load_events
loads_fit =
    next {e = PowerUp (record { fitted = 0; range = 0; filter = 0; kit = 0; firmware = 0 })} (lit< tt, lit< tt, lit< tt, lit< tt, lit< tt)
    (next {e = Write 0x18 5} (lit< tt, lit< tt) (next {e = Write 0x18 0x10006} (lit< tt, lit< tt) none))

loads_written : file_of load_events ≡ good_loads
unfolding load_events records_of file_of
loads_written = refl

loads_levels : alike (levels_line (levels_of (after (start nine_entries) load_events))) mid_levels ≡ true
unfolding load_events rules_open after alike hex levels_in levels_line
loads_levels = refl

loads_entries : (after (start nine_entries) load_events).memory ≡ 5 ∷ 0x10006 ∷ replicate 7 0xEE
unfolding load_events rules_open after
loads_entries = refl

-- kind 10, and a load behind it
bad_kind : List ℕ
bad_kind = 0x00 ∷ 0x01 ∷ 0x0A ∷ 0x00 ∷ 0x06 ∷ 0x02 ∷ 0x18 ∷ 0x00 ∷ 0x00 ∷ 0x00 ∷ 0x07 ∷ []

left : LeftRefused load_events refused_behind_loads nine_entries 13 26
unfolding load_events bad_kind records_of file_of fault_number length_of whole_record record_at item_at
left = refused_left load_events bad_kind nine_entries Kind 26 loads_fit (lit≤ tt) refl

pub left_met : Left-met
unfolding decimal_in
left_met =
    let levels = alike_equal _ _ loads_levels in
    record {
      memory = left.memory ∙ ap (λ (s : List ℕ). memory_after s nine_entries) loads_written;
      entries = left.played ∙ loads_entries;
      texts = (
        left.lines,
        ap (λ (s : List ℕ). text s nine_entries) (sym loads_written) ∙ left.whole ∙ ap (λ (z : List ℕ). left.lines ++ z) levels,
        left.refused ∙ ap (λ (z : List ℕ). left.lines ++ ascii "FILE 13 26\n" ++ z) levels,
      );
    }
