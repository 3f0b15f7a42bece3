-- The answer is had back from the item, and from the end.
use Prim.Native.Nat.{ℕ}
use mathlib.Core.Path.{◌≡◌, refl, sym, ap, ◌∙◌}
use Rattle.std.specs.Prelude.{Result, Ok, Err, Option, Some, None}
use Rattle.rules.specs.declared.Event.{Event}
use Rattle.file_rules.specs.declared.FileError.{FileError}
use Rattle.file_rules.specs.Item.{Item, Got, Over, End, File, Refused, item_of, end_of}
use Rattle.file_rules.specs.Unique.{Item-unique, End-unique}

abbrev pub of_end : {A : Type 0} → A → End → Result A FileError
of_end a File = Ok a
of_end a (Refused why p) = Err (record { fault = why; place = p })

abbrev of_item : Item → Result (Option (Event × ℕ)) FileError
of_item (Got e next) = Ok (Some (e, next))
of_item (Over end) = of_end None end

item_back : (r : Result (Option (Event × ℕ)) FileError) → of_item (item_of r) ≡ r
item_back (Ok (Some x)) = refl
item_back (Ok None) = refl
item_back (Err x) = refl

end_back : (r : Result (Unit {0}) FileError) → of_end tt (end_of r) ≡ r
end_back (Ok x) = refl
end_back (Err x) = refl

pub item_unique : Item-unique
item_unique r r' h = sym (item_back r) ∙ ap of_item h ∙ item_back r'

pub end_unique : End-unique
end_unique r r' h = sym (end_back r) ∙ ap (of_end tt) h ∙ end_back r'
