-- The law of every loop over a session. A loop holds something of its own (a board, a text, a table), and at each event changes it. Let
-- G o a x say that o is what comes of a and the session x. Whoever has done G of the rest has done G of the whole: that is so at the
-- start, it stays so over each event that the loop passes, and at the end of the file the rest is empty.
use Rattle.std.specs.Prelude.{ℕ, ◌-◌, ◌<◌, ◌≡◌, List, [], ◌∷◌, length}
use Rattle.rules.specs.declared.Event.{Event}
use Rattle.file_rules.specs.Item.{End}
use Rattle.file_rules.specs.File.{Session, session, Rest}
use Rattle.run.specs.declared.Cursor.{Cursor}
use Rattle.run.specs.Ahead.{Found, Over}
use Rattle.run.specs.Run.{found}

module _ {O A : Type 0} (G : O → A → Session → Type 0) (s : List ℕ) (start : A) where
  -- the loop stands at the cursor c with a: it has the rest of the session before it, and of that it has to do G
  pub record Way (a : A) (c : Cursor) : Type 0 where
    pub ahead : Session
    pub rest : Rest s c.place ahead
    pub whole : (o : O) → G o a ahead → G o start (session s)

-- what a loop does at an event, from a to b, is right: with G of the rest from b on, it is done from a on
abbrev pub Passes : {O A : Type 0} → (O → A → Session → Type 0) → A → Event → A → Type 0
Passes {O} G a e b = (o : O) (x : Session) → G o b x → G o a (record { events = e ∷ x.events; end = x.end })

abbrev pub Way-start : Type 1
Way-start = (O A : Type 0) (G : O → A → Session → Type 0) (s : List ℕ) (a : A) → Way G s a a (record { place = 0 })

abbrev pub Way-on : Type 1
Way-on =
    (O A : Type 0) (G : O → A → Session → Type 0) (s : List ℕ) (start a b : A) (c after : Cursor) (e : Event)
    → Way G s start a c
    → found s c ≡ Found e after
    → Passes G a e b
    → Way G s start b after

abbrev pub Way-over : Type 1
Way-over =
    (O A : Type 0) (G : O → A → Session → Type 0) (s : List ℕ) (start a : A) (c : Cursor) (end : End) (o : O)
    → Way G s start a c
    → found s c ≡ Over end
    → G o a (record { events = []; end = end })
    → G o start (session s)

-- and there is an end: the cursor goes on at each event
abbrev pub Way-ends : Type 0
Way-ends =
    (s : List ℕ) (c after : Cursor) (e : Event)
    → found s c ≡ Found e after
    → length s - after.place < length s - c.place
