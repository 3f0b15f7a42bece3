-- What a client who orders a size may rely on. Of a session file s over a sample memory m:
--   Named-plays   the code that is named plays: nothing is lost to a full buffer
--   Lower-lose    no lower code does
--   None-plays    19 is answered exactly when none of the sixteen does
--   Higher-play   every higher code plays too, and what the board does is the same after each event
-- The session with a code is that of Coded.antt; `NothingLost` (no event has fate 2) and `Agree` are those of demand 3.
use Rattle.std.specs.Prelude.{ℕ, ◌≤◌, ◌<◌, ◌≡◌, ◌↔◌, List, length, take}
use Rattle.rules.specs.declared.Event.{Event}
use Rattle.rules.specs.Record.{start}
use Rattle.file_rules.specs.Item.{File}
use Rattle.file_rules.specs.File.{session}
use Rattle.demand3.specs.Demand3.{NothingLost, Agree}
use Rattle.size_rules.specs.Coded.{sized_all}
use Rattle.size_rules.specs.Smallest.{size_refusal, size_code}

-- the events of the session file s, with the size code k
abbrev pub events_with : List ℕ → ℕ → List Event
events_with s k = sized_all k (session s).events

-- The code k plays the session s on every sample memory of n values, whatever stands in it. Only the length of a memory tells, since it
-- decides which power-ups are accepted.
abbrev pub Plays : List ℕ → ℕ → ℕ → Type 0
Plays s n k = (m : List ℕ) → length m ≡ n → NothingLost (start m) (events_with s k)

-- it plays it on none
abbrev pub Loses : List ℕ → ℕ → ℕ → Type 0
Loses s n k = (m : List ℕ) → length m ≡ n → ¬ NothingLost (start m) (events_with s k)

abbrev pub Named-plays : Type 0
Named-plays = (s m : List ℕ) → size_refusal s m ≡ 0 → (size_code s m ≤ 15) × Plays s (length m) (size_code s m)

-- 02: "Show that no lower code does"
abbrev pub Lower-lose : Type 0
Lower-lose = (s m : List ℕ) (k : ℕ) → size_refusal s m ≡ 0 → k < size_code s m → Loses s (length m) k

-- 02: "19 exactly when none of the sixteen codes plays without loss"
abbrev pub None-plays : Type 0
None-plays = (s m : List ℕ) → (size_refusal s m ≡ 19) ↔ (((session s).end ≡ File) × ((k : ℕ) → k ≤ 15 → Loses s (length m) k))

-- 02: "and, by demand 3, that all higher codes do wherever no power-up is refused". They do where one is refused too: a power-up's
-- refusal looks at its settings and the memory's length alone, so that it is the same at every code, and demand 3 holds for such runs
-- (Demand3-alike). m₁ and m₂ are any two memories as long as m: the one lent, or what other replays left. `Agree` says, at the end of the
-- first n events, for every n: channel levels, stored values in order, burst and loading states are equal, and so are the answers of all
-- events and, where no quarter-full interrupt was selected, the interrupt request.
abbrev pub Higher-play : Type 0
Higher-play =
    (s m m₁ m₂ : List ℕ) (k : ℕ)
    → size_refusal s m ≡ 0
    → size_code s m ≤ k
    → k ≤ 15
    → length m₁ ≡ length m
    → length m₂ ≡ length m
    → NothingLost (start m₂) (events_with s k) × ((n : ℕ) → Agree (start m₁) (take n (events_with s (size_code s m))) (start m₂) (take n (events_with s k)))
