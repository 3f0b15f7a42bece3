-- Two runs side by side, event by event (specs/TwoRuns.antt).
use Prim.Native.Nat.{ℕ, zero, suc}
use mathlib.Core.List.{List}
use lib.ListN.{take}
use Rattle.basics.specs.TwoRuns.{Engine, Along, end, on, Keeps, Tells, Runs-together}

module _ {S E O S' E' O' : Type 0} (m : Engine S E O) (m' : Engine S' E' O') where
  along_take : {P : S → E → S' → E' → Type 0} (n : ℕ) {s : S} {es : List E} {s' : S'} {es' : List E'}
      → Along m m' P s es s' es' → Along m m' P s (take n es) s' (take n es')
  along_take zero ps = end
  along_take (suc n) end = end
  along_take (suc n) (on p ps) = on p (along_take n ps)

  module _ {R : S → S' → Type 0} {P : S → E → S' → E' → Type 0} {T : S → S' → O → O' → Type 0} {G : S → List E → S' → List E' → Type 0}
      (k : Keeps m m' R P T) (t : Tells m m' R P T G) where
    whole : (s : S) {es : List E} (s' : S') {es' : List E'} → R s s' → Along m m' P s es s' es' → G s es s' es'
    whole s s' r end = t.none s s' r
    whole s s' r (on {e = e} {e' = e'} p ps) =
        let q = k.event s e s' e' r p in
        t.first s e _ s' e' _ p q (whole _ _ (k.states _ _ _ _ q) ps)

pub runs_together : Runs-together
runs_together S E O S' E' O' m m' R P T G k t s es s' es' r ps = (whole m m' k t s s' r ps, λ n. whole m m' k t s s' r (along_take m m' n ps))
