-- Demand 3 used: what its theorems tell of the second of two runs, in plain numbers. Of the first run they are computed, of the second they
-- follow, clause by clause.
--   scene_of s          what the order names of a state
--   answers_of f s es   one number of each event's answer
use Rattle.std.specs.Prelude.{ℕ, ◌≡◌, ◌≢◌, Bool, true, false, List, [], ◌∷◌, ◌++◌, map, replicate, take}
use Rattle.rules.specs.Types.{Answer}
use Rattle.rules.specs.declared.Burst.{Burst}
use Rattle.rules.specs.declared.Core.{Core}
use Rattle.rules.specs.declared.Event.{Event}
use Rattle.rules.specs.declared.Event.TheVariants.{PowerUp as power_up}
use Rattle.rules.specs.declared.Load.{Load}
use Rattle.rules.specs.Record.{State, state_of, stored, unpowered}
use Rattle.rules.specs.Parts.{no_burst, no_load}
use Rattle.rules.specs.Clocks.{closed}
use Rattle.rules.specs.Step.{step}
use Rattle.rules.specs.Session.{outcomes, after}
use Rattle.rules.specs.Bench.{load}
use Rattle.demand3.specs.Demand3.{NothingLost, loses_nothing, Agree}
use Rattle.demand3.specs.Examples.{settings, first_run, second_run, first_start, second_start, emptying, shut_out, refusing, again, nine_loads, too_small, large_enough}

-- ---- What is seen of a run

-- "channel levels, stored values in order, burst and loading states"
pub record Scene : Type 0 where
  pub levels : List ℕ
  pub values : List ℕ
  pub burst : Burst
  pub circular : Bool
  pub load : Load
  pub closed : Bool

abbrev pub scene_of : State → Scene
scene_of s =
    let c : Core = s.board.core in
    record {
      levels = c.outputs.levels;
      values = stored s;
      burst = c.burst;
      circular = c.mode.circular;
      load = c.load;
      closed = closed c;
    }

-- an open buffer that holds vs, and no burst; v on channel 00, the other channels at midrange
abbrev pub holding : ℕ → List ℕ → Scene
holding v vs =
    record { levels = v ∷ replicate 19 0x8000; values = vs; burst = no_burst; circular = false; load = no_load; closed = false }

abbrev pub answers_of : (Answer → ℕ) → State → List Event → List ℕ
answers_of f s es = map (λ o. f o.answer) (outcomes s es)

-- nothing has left a buffer that holds 1 to 8
abbrev pub eight_held : Scene
eight_held = holding 0x8000 (1 ∷ 2 ∷ 3 ∷ 4 ∷ 5 ∷ 6 ∷ 7 ∷ 8 ∷ [])

-- ---- The demand

-- What is seen of the script, "up to any point" of it.
pub record ScriptSeen (s : State) (es : List Event) : Type 0 where
  -- nine values and a burst that software started
  pub bursting : scene_of (after s (take 14 es)) ≡ record {
    levels = replicate 20 0x8000;
    values = 1 ∷ 2 ∷ 0x10003 ∷ 4 ∷ 5 ∷ 6 ∷ 7 ∷ 8 ∷ 0x10009 ∷ [];
    burst = record { running = true; software = true };
    circular = false;
    load = no_load;
    closed = false;
  }
  -- the first frame has left; the buffer is closed, a load asked for, and 4 has gone round
  pub turning : scene_of (after s (take 21 es)) ≡ record {
    levels = 4 ∷ replicate 19 0x8000;
    values = 5 ∷ 6 ∷ 7 ∷ 8 ∷ 0x10009 ∷ 4 ∷ [];
    burst = no_burst;
    circular = true;
    load = record { pending = true; opened = false };
    closed = true;
  }
  -- the second frame has turned once, and its EOF has opened the buffer
  pub opened : scene_of (after s (take 26 es)) ≡ record {
    levels = 9 ∷ replicate 19 0x8000;
    values = 4 ∷ 5 ∷ 6 ∷ 7 ∷ 8 ∷ 0x10009 ∷ [];
    burst = no_burst;
    circular = true;
    load = record { pending = false; opened = true };
    closed = false;
  }
  -- the end, after the second power-up
  pub end : scene_of (after s es) ≡ holding 11 []
  -- the answers of all 31 events
  pub refusals : answers_of (λ a. a.refusal) s es ≡ replicate 31 0
  pub moved : answers_of (λ a. a.moved) s es ≡ replicate 14 0 ++ replicate 3 1 ++ replicate 3 0 ++ replicate 6 1 ++ replicate 4 0 ++ 1 ∷ []
  pub fates : answers_of (λ a. a.fate) s es ≡ replicate 3 0 ++ replicate 9 1 ++ replicate 14 0 ++ 1 ∷ 0 ∷ 0 ∷ 1 ∷ 0 ∷ []

pub record Demand3-used : Type 0 where
  -- computed of the first run, and so true of the second
  pub first : ScriptSeen first_start first_run
  pub second : ScriptSeen second_start second_run
  -- "neither has the second"
  pub lossless : NothingLost second_start second_run
  -- beyond the order: the whole core
  pub core : (after first_start (take 21 first_run)).board.core ≡ (after second_start (take 21 second_run)).board.core
  -- nothing is asked of what comes after the point: the first run then loses its ninth value; the second one's power-up is refused
  pub before_loss : scene_of (after second_start (take 9 large_enough)) ≡ eight_held
  pub before_refusal : scene_of (after second_start (take 2 (again 9))) ≡ holding 0x8000 (1 ∷ [])

-- "where neither quarter-full interrupt is ever selected, the interrupt request is equal too": interrupt 2, the buffer empty. What
-- `Request-met` says of the first run holds of the second.
pub record Request-used : Type 0 where
  pub before : (after second_start (take 5 (emptying 3))).board.request ≡ false
  pub set : (after second_start (take 6 (emptying 3))).board.request ≡ true
  pub cleared : (after second_start (take 7 (emptying 3))).board.request ≡ false

-- A value lost to a closed buffer before the point: the others are stored and leave alike, and D17 is set in both runs.
pub record ClosedSeen (s : State) (es : List Event) : Type 0 where
  pub scene : scene_of (after s es) ≡ holding 1 (2 ∷ 4 ∷ [])
  pub fates : answers_of (λ a. a.fate) s es ≡ 0 ∷ 0 ∷ 1 ∷ 1 ∷ 0 ∷ 3 ∷ 0 ∷ 1 ∷ 0 ∷ []
  pub overflow : (after s es).board.core.lost.closed ≡ true

pub record Closed-used : Type 0 where
  pub first : ClosedSeen first_start (shut_out 0 0)
  pub second : ClosedSeen second_start (shut_out 1 15)

-- ---- From any two records

-- codes, places and count out of every range; and a board whose closed buffer is turning
abbrev pub damaged : State
damaged =
    state_of (record { core = unpowered.core; size = record { fitted = 99; code = 77 }; request = false; ring = record { first = 1000; count = 2000 } })
    (replicate 16 0)

abbrev pub turning_board : State
turning_board = after second_start (take 21 second_run)

-- the states that a power-up makes of them: a depth of 8 values, and of 16
abbrev pub mended : State
mended = (step damaged (power_up (settings 0))).state

abbrev pub restarted : State
restarted = (step turning_board (power_up (settings 1))).state

-- eight loads, and a ninth that the first loses
pub record From-any-used : Type 0 where
  pub agree : Agree mended (take 8 nine_loads) restarted (take 8 nine_loads)
  pub scene : scene_of (after restarted (take 8 nine_loads)) ≡ eight_held
  pub request : (after restarted (take 8 nine_loads)).board.request ≡ true

-- ---- In the order's own words

-- "up to any point": the ninth value is lost after it
pub record As-ordered-used : Type 0 where
  pub lossless : NothingLost second_start (take 9 large_enough)
  pub scene : scene_of (after second_start (take 9 large_enough)) ≡ eight_held
  pub request : (after second_start (take 6 (emptying 3))).board.request ≡ true

-- ---- Power-ups that are refused

pub record Refused-used : Type 0 where
  pub agree : Agree first_start (refusing 1) second_start (refusing 3)
  pub scene : scene_of (after second_start (refusing 3)) ≡ holding 0x8000 (1 ∷ 2 ∷ [])
  pub refusals : answers_of (λ a. a.refusal) second_start (refusing 3) ≡ 0 ∷ 0 ∷ 2 ∷ 0 ∷ []
  -- nothing is asked of what comes after the point
  pub before_loss : scene_of (after second_start (take 9 large_enough)) ≡ eight_held
  pub before_refusal : scene_of (after second_start (take 2 (again 9))) ≡ holding 0x8000 (1 ∷ [])

-- ---- The test

pub record Lossless-used : Type 0 where
  -- from the test: the value that a closed buffer shuts out is not lost to a full one
  pub passed : (step (after first_start (take 5 (shut_out 0 0))) (load 3)).answer.fate ≢ 2
  -- to the test: the second run passes it, since it lost nothing; and a run that fails it has lost something
  pub passes : loses_nothing second_start second_run ≡ true
  pub fails : ¬ NothingLost first_start too_small
