-- The smallest size that plays (02, 2026-05): "name the lowest code from 0 to 15 at which nothing is lost to a full buffer".
--   size_refusal s m   the refusal number of the session file s over the sample memory m
--   size_code s m      the code that is named
--   size_memory s m    the sample memory as it is left
use Rattle.std.specs.Prelude.{ℕ, zero, suc, Bool, cond, List, ltb, eqb}
use Rattle.rules.specs.declared.Event.{Event}
use Rattle.rules.specs.Record.{start}
use Rattle.rules.specs.Session.{after}
use Rattle.file_rules.specs.File.{session, verdict}
use Rattle.demand3.specs.Demand3.{loses_nothing}
use Rattle.size_rules.specs.Coded.{sized_all}

-- ---- One code after another

-- "replaying code 0, 1 and so on .., each over what the one before left": the memory after the replays of the codes below k. Each starts
-- unpowered and goes on to its end, past losses.
unfoldable pub replays : List Event → List ℕ → ℕ → List ℕ
replays es m zero = m
replays es m (suc k) = (after (start (replays es m k)) (sized_all k es)).memory

-- the code k, when its turn comes: "nothing is lost to a full buffer", fate 2. Fate 3, lost to a closed one, does not count. The test is
-- that of demand 3.
unfoldable pub plays_in_turn : List Event → List ℕ → ℕ → Bool
plays_in_turn es m k = loses_nothing (start (replays es m k)) (sized_all k es)

-- the lowest of n codes from k on that passes, or the code after them
unfoldable pub lowest_from : (ℕ → Bool) → ℕ → ℕ → ℕ
lowest_from pass zero k = k
lowest_from pass (suc n) k = cond (pass k) k (lowest_from pass n (suc k))

-- "from 0 to 15"
abbrev pub codes : ℕ
codes = 16

-- "the lowest code .. at which nothing is lost", or 16 where there is none
unfoldable pub lowest : List Event → List ℕ → ℕ
lowest es m = lowest_from (plays_in_turn es m) codes 0

-- "up to the code named (15 for refusal 19)": how many codes were replayed
abbrev pub replayed : ℕ → ℕ
replayed k = cond (ltb k codes) (suc k) codes

-- ---- A session file

abbrev pub file_refusal : List ℕ → ℕ
file_refusal s = (verdict (session s).end).number

-- "10 to 13 first"; "19 exactly when none of the sixteen codes plays without loss"
unfoldable pub size_refusal : List ℕ → List ℕ → ℕ
size_refusal s m =
    cond (eqb (file_refusal s) 0) (cond (ltb (lowest (session s).events m) codes) 0 19) (file_refusal s)

-- "each names code 0"
unfoldable pub size_code : List ℕ → List ℕ → ℕ
size_code s m = cond (eqb (size_refusal s m) 0) (lowest (session s).events m) 0

-- "10 to 13 first, with the memory untouched"
unfoldable pub size_memory : List ℕ → List ℕ → List ℕ
size_memory s m =
    let es : List Event = (session s).events in
    cond (eqb (file_refusal s) 0) (replays es m (replayed (lowest es m))) m
