-- Two things that equal a third are equal: so any two outcomes that a promise allows are. And what was told of a test, where the code
-- goes by it.
use mathlib.Core.Path.{◌≡◌, sym, ap, ◌∙◌}
use mathlib.Core.Bool.{Bool, true, false}
use Rattle.rules.specs.Told.{Told, Told-unique}
use Rattle.rules.specs.ToldInNumbers.{ToldInNumbers, ToldInNumbers-unique}

pub determined {ℓ} : {A : Type ℓ} {x y z : A} → x ≡ z → y ≡ z → x ≡ y
determined p q = p ∙ sym q

pub told_unique : Told-unique
told_unique A x r r' p q = determined p.told q.told

pub told_in_numbers_unique : ToldInNumbers-unique
told_in_numbers_unique A N numbers x r r' p q = determined p.told q.told

-- what is equal has equal numbers
pub told_in_numbers : {A N : Type 0} (numbers : A → N) {x r : A} → r ≡ x → ToldInNumbers numbers x r
told_in_numbers numbers e = record { told = e; in_numbers = ap numbers e }

pub told_false : {x r : Bool} → Told x r → r ≡ false → x ≡ false
told_false {x} {r} p h = sym p.told ∙ h

pub told_true : {x r : Bool} → Told x r → r ≡ true → x ≡ true
told_true {x} {r} p h = sym p.told ∙ h
