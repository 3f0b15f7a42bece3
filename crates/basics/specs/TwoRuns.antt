-- Two runs side by side: what each pair of events keeps is kept by two whole runs, and holds after each event. Proofs are in
-- proofs/TwoRuns.antt.
--   Engine S E O    what comes of a state and an event, and the state that is left; the two need not be the same
--   R s s'          what two states have in common
--   P s e s' e'     what is asked of two events, where the runs come to them
--   T s s' o o'     what two events do to both, told of their outcomes
--   G s es s' es'   what is to be told of two runs, from the states s and s'
--   Along P         P is met at each pair of events of two runs
use Rattle.std.specs.Prelude.{ℕ, List, [], ◌∷◌, take}

pub record Engine (S E O : Type 0) : Type 0 where
  pub does : S → E → O
  pub left : O → S

module _ {S E O S' E' O' : Type 0} (m : Engine S E O) (m' : Engine S' E' O') where
  pub data Along (P : S → E → S' → E' → Type 0) : S → List E → S' → List E' → Type 0 where
    end : {s : S} {s' : S'} → Along P s [] s' []
    on : {s : S} {e : E} {es : List E} {s' : S'} {e' : E'} {es' : List E'}
        → P s e s' e'
        → Along P (m.left (m.does s e)) es (m'.left (m'.does s' e')) es'
        → Along P s (e ∷ es) s' (e' ∷ es')

  module _ (R : S → S' → Type 0) (P : S → E → S' → E' → Type 0) (T : S → S' → O → O' → Type 0) where
    -- One event: T of the outcomes, and so R of the states that are left.
    pub record Keeps : Type 0 where
      pub event : (s : S) (e : E) (s' : S') (e' : E') → R s s' → P s e s' e' → T s s' (m.does s e) (m'.does s' e')
      pub states : (s : S) (s' : S') (o : O) (o' : O') → T s s' o o' → R (m.left o) (m'.left o')

    -- G is told of two runs without an event, and of two runs by their first events and their rests. Of the states after the runs G says
    -- R, of their outcomes T, pair by pair.
    pub record Tells (G : S → List E → S' → List E' → Type 0) : Type 0 where
      pub none : (s : S) (s' : S') → R s s' → G s [] s' []
      pub first : (s : S) (e : E) (es : List E) (s' : S') (e' : E') (es' : List E')
          → P s e s' e'
          → T s s' (m.does s e) (m'.does s' e')
          → G (m.left (m.does s e)) es (m'.left (m'.does s' e')) es'
          → G s (e ∷ es) s' (e' ∷ es')

-- ---- The law

-- G is told of the whole runs, and after each event: of the first n.
abbrev pub Runs-together : Type 1
Runs-together =
    (S E O S' E' O' : Type 0) (m : Engine S E O) (m' : Engine S' E' O')
    (R : S → S' → Type 0) (P : S → E → S' → E' → Type 0) (T : S → S' → O → O' → Type 0) (G : S → List E → S' → List E' → Type 0)
    → Keeps m m' R P T
    → Tells m m' R P T G
    → (s : S) (es : List E) (s' : S') (es' : List E')
    → R s s'
    → Along m m' P s es s' es'
    → G s es s' es' × ((n : ℕ) → G s (take n es) s' (take n es'))
