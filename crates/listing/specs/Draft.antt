-- What the loops over a session hold while they write its listing. For the code.
--   Fills o k x          o is the page when the session x is played and written on from the draft k
--   Fair s c k           at the cursor c the draft k has room for the rest, and its board is one of a run
--   Walked s c k c' k'   from the cursor c and the draft k, events were played and written as far as c' and k'
use Rattle.std.specs.Prelude.{ℕ, ◌+◌, ◌*◌, ◌-◌, ◌≤◌, ◌≡◌, List, length}
use Rattle.rules.specs.declared.Core.{Core}
use Rattle.rules.specs.declared.Ring.{Ring}
use Rattle.rules.specs.declared.Board.{Board}
use Rattle.rules.specs.Record.{State, state_of}
use Rattle.rules.specs.Session.{after}
use Rattle.file_rules.specs.File.{Session}
use Rattle.run.specs.declared.Cursor.{Cursor}
use Rattle.run.specs.Way.{Way}
use Rattle.file_rules.specs.Pieces.{Piece}
use Rattle.listing.specs.declared.hurry.Reached.{Reached}
use Rattle.listing_rules.specs.Listing.{body}
use Rattle.listing.specs.Shortcuts.{board_as, board_with, InRun}

-- the output so far and the place in it, the number of the next line, the board and its memory
pub record Draft : Type 0 where
  pub out : List ℕ
  pub at : ℕ
  pub number : ℕ
  pub state : State

abbrev pub draft : Reached → List ℕ → List ℕ → Draft
draft r m out = record { out = out; at = r.at; number = r.number; state = state_of r.board m }

-- the output in the end and the place after the text, and the memory
pub record Page : Type 0 where
  pub out : List ℕ
  pub at : ℕ
  pub memory : List ℕ

pub record Fills (o : Page) (k : Draft) (x : Session) : Type 0 where
  pub text : Piece k.out k.at (body k.number k.state x) o.out o.at
  pub memory : o.memory ≡ (after k.state x.events).memory

pub record Fair (s : List ℕ) (c : Cursor) (k : Draft) : Type 0 where
  pub within : c.place ≤ length s
  pub numbered : k.number ≤ c.place + 1
  -- a record has three bytes or more, and its line takes no more than twenty-two for each
  pub room : k.at + 134 + 22 * (length s - c.place) ≤ length k.out
  pub sound : InRun k.state

pub record Walked (s : List ℕ) (c : Cursor) (k : Draft) (c' : Cursor) (k' : Draft) : Type 0 where
  pub fair : Fair s c' k'
  pub way : (start : Draft) → Way Fills s start k c → Way Fills s start k' c'
  pub nearer : length s - c'.place ≤ length s - c.place

-- ---- What is done at once

-- the board of its parts and these levels
abbrev pub board_now : Board → Core → List ℕ → Ring → Board
board_now rest core levels ring = board_with (board_as rest core ring) levels
