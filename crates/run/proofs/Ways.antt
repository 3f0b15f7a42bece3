-- The law of every loop over a session (specs/Way.antt), from what `Rest` of crate `file_rules` says of the session from a place on.
use Prim.Native.Nat.{ℕ}
use mathlib.Core.Path.{◌≡◌, sym, ap, subst}
use mathlib.Core.Bool.{Bool, true, false, true≢false, false≢true}
use mathlib.Core.List.{List}
use native.Mathlib.Omega.{arith}
use Rattle.rules.specs.declared.Event.{Event}
use Rattle.rules.specs.declared.Signal.TheVariants.{Tick}
use Rattle.rules.specs.declared.Event.TheVariants.{Signal as signal}
use Rattle.file_rules.specs.Item.{End}
use Rattle.file_rules.specs.Item.{File}
use Rattle.file_rules.specs.Item.{Item}
use Rattle.file_rules.specs.Item.{Got, Over as over}
use Rattle.file_rules.specs.File.{item_at}
use Rattle.file_rules.proofs.Given.{item_grows}
use Rattle.file_rules.proofs.Rests.{rest_start, rest_got, rest_over}
use Rattle.run.specs.declared.Cursor.{Cursor}
use Rattle.run.specs.Ahead.{Ahead}
use Rattle.run.specs.Ahead.{Found, Over}
use Rattle.run.specs.Run.{at_cursor, found}
use Rattle.run.specs.Way.{Way-start, Way-on, Way-over, Way-ends}

-- ---- What stands at a cursor, as the file says it

abbrev is_found : Ahead → Bool
is_found (Found e c) = true
is_found (Over x) = false

abbrev event_in : Ahead → Event
event_in (Found e c) = e
event_in (Over x) = signal Tick

abbrev place_in : Ahead → ℕ
place_in (Found e c) = c.place
place_in (Over x) = 0

abbrev end_ahead : Ahead → End
end_ahead (Found e c) = File
end_ahead (Over x) = x

got : (i : Item) (e : Event) (after : Cursor) → at_cursor i ≡ Found e after → i ≡ Got e after.place
got (Got d n) e after h = λ j. Got (event_in (h j)) (place_in (h j))
got (over x) e after h = absurd (false≢true (ap is_found h))

ended : (i : Item) (x : End) → at_cursor i ≡ Over x → i ≡ over x
ended (Got d n) x h = absurd (true≢false (ap is_found h))
ended (over y) x h = λ j. over (end_ahead (h j))

pub event_stood : (s : List ℕ) (c after : Cursor) (e : Event) → found s c ≡ Found e after → item_at s c.place ≡ Got e after.place
event_stood s c after e = got (item_at s c.place) e after

pub end_stood : (s : List ℕ) (c : Cursor) (x : End) → found s c ≡ Over x → item_at s c.place ≡ over x
end_stood s c x = ended (item_at s c.place) x

-- ---- The law

pub way_start : Way-start
way_start O A G s a = record { ahead = _; rest = rest_start s; whole = λ o g. g }

pub way_on : Way-on
way_on O A G s start a b c after e w h pass =
    let r = rest_got s c.place w.ahead w.rest e after.place (event_stood s c after e h) in
    record {
      ahead = r.0;
      rest = r.1;
      whole = λ o g. w.whole o (subst (G o a) (λ i. record { events = sym r.2 i; end = sym r.3 i }) (pass o r.0 g));
    }

pub way_over : Way-over
way_over O A G s start a c end o w h g =
    let r = rest_over s c.place w.ahead w.rest end (end_stood s c end h) in
    w.whole o (subst (G o a) (λ i. record { events = sym r.0 i; end = sym r.1 i }) g)

pub way_ends : Way-ends
way_ends s c after e h = omega (arith, item_grows s c.place e after.place (event_stood s c after e h))
