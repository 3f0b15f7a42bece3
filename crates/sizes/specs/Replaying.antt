-- What one replay, and the replays one after another, make of the memory, and what they tell.
use Rattle.std.specs.Prelude.{ℕ, ◌≡◌, Bool, cond, List, ltb, Option, Some, None}
use Rattle.rules.specs.Record.{start}
use Rattle.rules.specs.Session.{after}
use Rattle.file_rules.specs.File.{session}
use Rattle.size_rules.specs.Coded.{sized_all}
use Rattle.demand3.specs.Demand3.{loses_nothing}
use Rattle.size_rules.specs.Smallest.{replays, codes, lowest, replayed}

-- the session file s with the code k, from the unpowered record over the memory m
pub record ReplayTold (s m : List ℕ) (k : ℕ) (r : Bool) (m' : List ℕ) : Type 0 where
  pub whole : r ≡ loses_nothing (start m) (sized_all k (session s).events)
  pub memory : m' ≡ (after (start m) (sized_all k (session s).events)).memory

-- the code that the search ends with, or none where it is past them all
abbrev pub found_code : ℕ → Option ℕ
found_code k = cond (ltb k codes) (Some k) None

pub record LowestTold (s m : List ℕ) (r : Option ℕ) (m' : List ℕ) : Type 0 where
  pub code : r ≡ found_code (lowest (session s).events m)
  pub memory : m' ≡ replays (session s).events m (replayed (lowest (session s).events m))
