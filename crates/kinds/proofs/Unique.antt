-- A number says one kind, and a number that says one has a length.
use Prim.Native.Nat.{ℕ}
use mathlib.Core.Path.{◌≡◌, refl, sym, ap, ◌∙◌}
use mathlib.Core.Logic.{◌≢◌}
use native.Mathlib.Omega.{arith}
use Rattle.std.specs.Prelude.{Ok, Err, cond, eqb}
use Rattle.rules.specs.declared.Signal.TheVariants.{Tick, Outside, Trigger, Passed, Failed, Settled}
use Rattle.kinds.specs.declared.Kind.{Kind}
use Rattle.kinds.specs.declared.Kind.TheVariants.{PowerUp, Write, Read, Signal as signal}
use Rattle.file_rules.specs.File.{length_of, signal_of}
use Rattle.kinds.specs.Numbers.{kind_number, Kind-unique, Named-unique}

-- the kind that a number says, by 01's table
kind_at : ℕ → Kind
kind_at n = cond (eqb n 1) PowerUp (cond (eqb n 2) Write (cond (eqb n 3) Read (signal (signal_of n))))

back : (k : Kind) → kind_at (kind_number k) ≡ k
unfolding kind_at signal_of
back PowerUp = refl
back Write = refl
back Read = refl
back (signal Tick) = refl
back (signal Outside) = refl
back (signal Trigger) = refl
back (signal Passed) = refl
back (signal Failed) = refl
back (signal Settled) = refl

pub kind_unique : Kind-unique
kind_unique k k' e = sym (back k) ∙ ap kind_at e ∙ back k'

-- a record of a kind has a byte at least
pub has_length : (k : Kind) → length_of (kind_number k) ≢ 0
unfolding length_of
has_length PowerUp e = absurd (omega (arith, e))
has_length Write e = absurd (omega (arith, e))
has_length Read e = absurd (omega (arith, e))
has_length (signal Tick) e = absurd (omega (arith, e))
has_length (signal Outside) e = absurd (omega (arith, e))
has_length (signal Trigger) e = absurd (omega (arith, e))
has_length (signal Passed) e = absurd (omega (arith, e))
has_length (signal Failed) e = absurd (omega (arith, e))
has_length (signal Settled) e = absurd (omega (arith, e))

pub named_unique : Named-unique
named_unique n (Ok k) (Ok k') p q = ap Ok (kind_unique k k' (p ∙ sym q))
named_unique n (Ok k) (Err _) p q = absurd (has_length k (ap length_of p ∙ q))
named_unique n (Err _) (Ok k) p q = absurd (has_length k (ap length_of q ∙ p))
named_unique n (Err x) (Err y) p q = refl
