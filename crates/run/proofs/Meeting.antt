-- The law of a loop over the items of a session, where specs/Way.antt has that of a loop by its cursor: what it has to do of the session
-- that the items left are told of, to have done it of the whole.
use Prim.Native.Nat.{ℕ}
use mathlib.Core.Path.{◌≡◌, refl, sym, ap, subst, ◌∙◌}
use mathlib.Core.List.{List, [], ◌∷◌}
use Rattle.std.specs.Prelude.{Result, Ok, Err}
use Rattle.rules.specs.declared.Event.{Event}
use Rattle.file_rules.specs.declared.FileError.{FileError}
use Rattle.file_rules.specs.Item.{End, File, Refused}
use Rattle.file_rules.specs.File.{Session, session}
use Rattle.run.specs.Items.{met, items_of}
use Rattle.run.specs.Way.{Passes}

unfoldable pub told : List (Result Event FileError) → Session
told [] = record { events = []; end = File }
told (Ok e ∷ xs) = record { events = e ∷ (told xs).events; end = (told xs).end }
told (Err x ∷ xs) = record { events = []; end = Refused x.fault x.place }

told_met : (es : List Event) (x : End) → told (met es x) ≡ record { events = es; end = x }
unfolding met told
told_met [] File = refl
told_met [] (Refused why p) = refl
told_met (e ∷ es) x = ap (λ (z : Session). record { events = e ∷ z.events; end = z.end }) (told_met es x)

pub told_all : (x : Session) → told (items_of x) ≡ x
told_all x = told_met x.events x.end

module _ {O A : Type 0} (G : O → A → Session → Type 0) (s : List ℕ) (start : A) where
  -- the loop has a, and these items before it
  abbrev pub Meeting : A → List (Result Event FileError) → Type 0
  Meeting a xs = (o : O) → G o a (told xs) → G o start (session s)

  pub meeting_start : (xs : List (Result Event FileError)) → xs ≡ items_of (session s) → Meeting start xs
  meeting_start xs h o g = subst (G o start) (ap told h ∙ told_all (session s)) g

  pub meeting_on : (a b : A) (e : Event) (xs ys : List (Result Event FileError)) → Meeting a xs → xs ≡ Ok e ∷ ys → Passes G a e b → Meeting b ys
  unfolding told
  meeting_on a b e xs ys w h pass o g = w o (subst (λ (zs : List (Result Event FileError)). G o a (told zs)) (sym h) (pass o (told ys) g))

  pub meeting_over : (a : A) (o : O) (xs : List (Result Event FileError)) → Meeting a xs → xs ≡ [] → G o a (record { events = []; end = File }) → G o start (session s)
  unfolding told
  meeting_over a o xs w h g = w o (subst (λ (zs : List (Result Event FileError)). G o a (told zs)) (sym h) g)

  pub meeting_refused : (a : A) (o : O) (x : FileError) (xs ys : List (Result Event FileError)) → Meeting a xs → xs ≡ Err x ∷ ys
      → G o a (record { events = []; end = Refused x.fault x.place })
      → G o start (session s)
  unfolding told
  meeting_refused a o x xs ys w h g = w o (subst (λ (zs : List (Result Event FileError)). G o a (told zs)) (sym h) g)
