-- The loop that only reads: what it makes of a session is its end.
use Prim.Native.Nat.{ℕ}
use mathlib.Core.Path.{◌≡◌, refl}
use mathlib.Core.List.{List}
use Rattle.rules.specs.declared.Event.{Event}
use Rattle.file_rules.specs.Item.{End}
use Rattle.file_rules.specs.File.{Session, session}
use Rattle.run.specs.declared.Cursor.{Cursor}
use Rattle.run.specs.Ahead.{Found, Over}
use Rattle.run.specs.Run.{found}
use Rattle.run.specs.Way.{Way}
use Rattle.run.proofs.Ways.{way_start, way_on, way_over}

abbrev EndsSo : End → Unit {0} → Session → Type 0
EndsSo o a x = o ≡ x.end

-- it stands at the cursor c of the file s
abbrev pub Reading : List ℕ → Cursor → Type 0
Reading s c = Way EndsSo s tt tt c

pub reading_start : (s : List ℕ) → Reading s (record { place = 0 })
reading_start s = way_start End (Unit {0}) EndsSo s tt

pub reading_on : (s : List ℕ) (c after : Cursor) (e : Event) → Reading s c → found s c ≡ Found e after → Reading s after
reading_on s c after e r f = way_on End (Unit {0}) EndsSo s tt tt tt c after e r f (λ o x h. h)

pub reading_over : (s : List ℕ) (c : Cursor) (end : End) → Reading s c → found s c ≡ Over end → end ≡ (session s).end
reading_over s c end r f = way_over End (Unit {0}) EndsSo s tt tt c end end r f refl
