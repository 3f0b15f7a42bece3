-- What an event leaves stored, on lists.
--   Fit s        the values of s have their places, and its two codes are in range
--   Kept s e     what is stored after the event e is done
use Rattle.std.specs.Prelude.{◌≤◌, ◌≡◌, true}
use Rattle.laws.specs.Types.{Size, Event}
use Rattle.rules.specs.Record.{State, depth, stored, sound_core, sound_ring}
use Rattle.rules.specs.Place.{place_of}
use Rattle.rules.specs.Size.{size_after}
use Rattle.rules.specs.Step.{played, done}
use Rattle.rules.specs.Laws.Soundness.{Stands}
use Rattle.rules.specs.Laws.Refusals.{Ordinary}
use Rattle.laws.specs.Lists.{Good, on_list, Same}

-- ---- The stored values have their places

pub record Fit (s : State) : Type 0 where
  pub good : Good (depth s.board) (place_of s)
  pub fitted : s.board.size.fitted ≤ 15
  pub code : s.board.size.code ≤ 15

abbrev pub Stands-fit : Type 0
Stands-fit = (s : State) → Stands s → Fit s

-- the clauses of soundness that speak of sizes and places
abbrev pub Fit-sound : Type 0
Fit-sound = (s : State) → Fit s → sound_ring s.board.size s.board.ring ≡ true

-- A sound core over a fitting ring is a sound board over enough memory.
abbrev pub Fit-stands : Type 0
Fit-stands = (s : State) → sound_core s.board.core ≡ true → Fit s → Stands s

-- 01: "Power-up gives a fitted code d": no other event changes it.
abbrev pub Fitted-kept : Type 0
Fitted-kept =
    (z : Size) (e : Event)
    → Ordinary e
    → (size_after z e).fitted ≡ z.fitted

-- ---- What is stored after an event that is done

pub record Kept (s : State) (e : Event) : Type 0 where
  pub fit : Fit (done s e).state
  pub lists : stored (done s e).state ≡ on_list (played s e).op (stored s)
  pub same : Same (depth s.board) s.memory (done s e).state.memory

abbrev pub Event-kept : Type 0
Event-kept =
    (s : State) (e : Event)
    → Ordinary e
    → Fit s
    → Kept s e
