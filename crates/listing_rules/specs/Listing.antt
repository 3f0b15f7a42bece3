-- The listing of a session file (01, "Session file and listing").
--   lines k os     a line for each outcome, numbered from k
--   body k st x    the lines of the session x, played on the state st, and how the listing ends
--   listing s m    the whole listing of the file s on a board with the sample memory m
use Rattle.std.specs.Prelude.{ℕ, ◌+◌, ◌*◌, cond, List, [], ◌∷◌, ◌++◌, ltb, length}
use Rattle.rules.specs.Record.{State, start}
use Rattle.rules.specs.Step.{Outcome}
use Rattle.rules.specs.Session.{outcomes, after}
use Rattle.file_rules.specs.Item.{End}
use Rattle.file_rules.specs.File.{Session, session, verdict}
use Rattle.listing_rules.specs.Text.{heading, too_long, line, tail}

-- ---- The parts

unfoldable pub lines : ℕ → List Outcome → List ℕ
lines k [] = []
lines k (o ∷ os) = line k o.answer o.state.board.ring.count ++ lines (k + 1) os

abbrev pub levels_of : State → List ℕ
levels_of st = st.board.core.outputs.levels

unfoldable pub ending : End → List ℕ → List ℕ
ending end levels = tail (verdict end).number (verdict end).place levels

abbrev pub body : ℕ → State → Session → List ℕ
body k st x = lines k (outcomes st x.events) ++ ending x.end (levels_of (after st x.events))

-- ---- The whole

unfoldable pub listing : List ℕ → List ℕ → List ℕ
listing s m = heading ++ body 1 (start m) (session s)

-- ---- What is written

-- 01: "(at most 65,536 bytes ..)"; "A longer input prints only `TOO LONG`."
abbrev pub longest : ℕ
longest = 65536

unfoldable pub text : List ℕ → List ℕ → List ℕ
text s m = cond (ltb longest (length s)) too_long (listing s m)

-- a file that is too long is not run
unfoldable pub memory_after : List ℕ → List ℕ → List ℕ
memory_after s m = cond (ltb longest (length s)) m (after (start m) (session s).events).memory

-- how long an output has to be for a file of n bytes: a record has three bytes or more, and its line sixty-four or fewer
unfoldable pub room : ℕ → ℕ
room n = cond (ltb longest n) 9 (160 + 22 * n)
