-- The promises of the public functions: each fixes every outcome, the sample memory too. That of `next` is
-- `ToldInNumbers` of rules/specs/ToldInNumbers.antt; of the enums that the others answer the numbers are said beside them.
use Rattle.std.specs.Prelude.{ℕ, ◌≡◌, List}
use Rattle.rules.specs.declared.Board.{Board}
use Rattle.rules.specs.Record.{state_of, start}
use Rattle.rules.specs.Session.{after}
use Rattle.file_rules.specs.Item.{end_of}
use Rattle.file_rules.specs.File.{verdict, session}
use Rattle.run.specs.declared.Cursor.{Cursor}
use Rattle.run.specs.declared.Advanced.{Advanced}
use Rattle.run.specs.declared.Ran.{Ran}
use Rattle.run.specs.Ahead.{progress_of}
use Rattle.run.specs.Run.{advanced}
use Rattle.run.specs.Numbers.{progress_numbers}

-- one record of the file s
pub record Advances (s : List ℕ) (c : Cursor) (b : Board) (m : List ℕ) (r : Advanced) (m' : List ℕ) : Type 0 where
  pub progress : progress_of r.progress ≡ (advanced s c (state_of b m)).progress
  pub in_numbers : progress_numbers (progress_of r.progress) ≡ progress_numbers (advanced s c (state_of b m)).progress
  pub board : r.board ≡ (advanced s c (state_of b m)).state.board
  pub memory : m' ≡ (advanced s c (state_of b m)).state.memory

-- the whole file: what its events leave, one after another, and how it ends
pub record Runs (s m : List ℕ) (r : Ran) (m' : List ℕ) : Type 0 where
  pub end : end_of r.end ≡ (session s).end
  pub in_numbers : verdict (end_of r.end) ≡ verdict (session s).end
  pub board : r.board ≡ (after (start m) (session s).events).board
  pub memory : m' ≡ (after (start m) (session s).events).memory
