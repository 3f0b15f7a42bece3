-- Each promise says what every part of the outcome is: two that do are equal.
use Prim.Native.Nat.{ℕ}
use mathlib.Core.Path.{◌≡◌, refl, sym, ap, ◌∙◌}
use Rattle.std.specs.Prelude.{Result, Ok, Err, cond, eqb}
use Rattle.rules.proofs.Equal.{determined}
use Rattle.writer.specs.declared.refusal.WriteRefusal.{WriteRefusal}
use Rattle.writer.specs.declared.refusal.WriteRefusal.TheVariants.{UnknownKind, PlacePastEnd, NoRoom, PartOfAGroup, NoChoice, FieldTooLarge, PartOfARow}
use Rattle.writer.specs.Written.{Written, refusal_number, written_of}
use Rattle.writer.specs.Unique.{Writes-unique, Cuts-unique, Written-unique}

pub writes_unique : Writes-unique
writes_unique xs out place r r' o o' p q = (
  λ i. record { refusal = determined p.refusal q.refusal i; place = determined p.place_after q.place_after i },
  determined p.output q.output,
)

pub cuts_unique : Cuts-unique
cuts_unique q out place r r' o o' p k = (
  λ i. record { refusal = determined p.refusal k.refusal i; place = determined p.place_after k.place_after i },
  determined p.output k.output,
)

-- the outcome that the numbers say
refusal_at : ℕ → WriteRefusal
refusal_at n =
    cond (eqb n 13) UnknownKind
    (cond (eqb n 20) PlacePastEnd
    (cond (eqb n 21) NoRoom
    (cond (eqb n 22) PartOfAGroup (cond (eqb n 23) NoChoice (cond (eqb n 30) FieldTooLarge PartOfARow)))))

outcome_of : Written → Result ℕ WriteRefusal
outcome_of w = cond (eqb w.refusal 0) (Ok w.place) (Err (refusal_at w.refusal))

back : (r : Result ℕ WriteRefusal) → outcome_of (written_of r) ≡ r
unfolding outcome_of refusal_at written_of refusal_number
back (Ok place) = refl
back (Err UnknownKind) = refl
back (Err PlacePastEnd) = refl
back (Err NoRoom) = refl
back (Err PartOfAGroup) = refl
back (Err NoChoice) = refl
back (Err FieldTooLarge) = refl
back (Err PartOfARow) = refl

pub written_unique : Written-unique
written_unique r r' e = sym (back r) ∙ ap outcome_of e ∙ back r'
