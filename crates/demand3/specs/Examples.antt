-- Demand 3 at work: four pairs of runs that meet every premise, one of them with an interrupt selected, one with a value lost to a closed
-- buffer, one with a power-up that both refuse, and pairs that show why a loss ends its promise, why a power-up that one run alone
-- refuses does, and why a quarter-full interrupt ends that of the request. `Demand3-computed` has the demand's words without its proof,
-- Instances.antt what its theorems tell of these runs.
use Rattle.std.specs.Prelude.{ℕ, ◌+◌, ◌≡◌, ◌≢◌, true, false, List, [], ◌∷◌, length, replicate, take}
use Rattle.rules.specs.declared.Settings.{Settings}
use Rattle.rules.specs.declared.Event.{Event}
use Rattle.rules.specs.declared.Event.TheVariants.{PowerUp as power_up}
use Rattle.rules.specs.Record.{State, active_size, stored, start}
use Rattle.rules.specs.Step.{step}
use Rattle.rules.specs.Session.{after}
use Rattle.rules.specs.Bench.{bcr, mask, bor, load, clk}
use Rattle.demand3.specs.Demand3.{NeverLower, AllNeverLower, PowerUpsAccepted, NothingLost, loses_nothing, NoQuarters, Agree, PowerUpsAlike}

abbrev pub settings : ℕ → Settings
settings d = record { fitted = d; range = 0; filter = 0; kit = 2; firmware = 0 }

abbrev pub fit : ℕ → Event
fit d = power_up (settings d)

-- One session: d is the fitted code of its two power-ups, large and small are the size codes that it writes.
abbrev pub script : ℕ → ℕ → ℕ → List Event
script d large small =
    fit d ∷ mask 1 ∷ bor (0x20 + large)
    -- nine values in two frames
    ∷ load 1 ∷ load 2 ∷ load 0x10003 ∷ load 4 ∷ load 5 ∷ load 6 ∷ load 7 ∷ load 8 ∷ load 0x10009
    -- the size cut
    ∷ bor (0x20 + small)
    -- a burst that software starts; the first frame's EOF ends it
    ∷ bcr 0x15 ∷ clk ∷ clk ∷ clk ∷ clk
    -- back to continuous mode; the buffer closed, a load requested; the second frame turns once and opens it
    ∷ bcr 0x10 ∷ bor (0x320 + small) ∷ clk ∷ clk ∷ clk ∷ clk ∷ clk ∷ clk
    -- one new value is let in
    ∷ load 0x1000A
    -- and all begins anew
    ∷ fit d ∷ bor (0x20 + small) ∷ load 11 ∷ clk ∷ []

-- the first run: depth 16, sizes 16 and 8; the second: depth 64, sizes 64 and 16; over memories of other lengths and contents
abbrev pub first_run : List Event
first_run = script 1 1 0

abbrev pub second_run : List Event
second_run = script 3 15 1

abbrev pub first_start : State
first_start = start (replicate 16 0)

abbrev pub second_start : State
second_start = start (replicate 70 0xFFFFFFFF)

-- It meets every premise, to its end; and it comes to the states that its comments name.
pub record Demand3-met : Type 0 where
  pub lower : AllNeverLower first_run second_run
  pub accepted : PowerUpsAccepted first_start first_run
  pub accepted' : PowerUpsAccepted second_start second_run
  pub lossless : NothingLost first_start first_run
  pub unselected : NoQuarters first_start first_run
  -- nine values in a buffer of size 8 after the cut
  pub beyond : stored (after first_start (take 13 first_run)) ≡ 1 ∷ 2 ∷ 0x10003 ∷ 4 ∷ 5 ∷ 6 ∷ 7 ∷ 8 ∷ 0x10009 ∷ []
  pub size : active_size (after first_start (take 13 first_run)).board.size ≡ 8
  -- seven of eight after the load that was asked for
  pub nearly : length (stored (after first_start (take 27 first_run))) ≡ 7

-- The request comes and goes by the edges of an interrupt that is no quarter: 2, the buffer empty.
abbrev pub emptying : ℕ → List Event
emptying d =
    fit d ∷ mask 1 ∷ bor 0x2F
    -- 2 is selected, and D11 clears the request that the power-up set
    ∷ bcr 0x210
    -- a value comes in and leaves, and another comes in
    ∷ load 1 ∷ clk ∷ load 2 ∷ []

-- Sizes 16 and 64. Every premise is met, to the end, and so the requests of the two runs are equal: here are those of the first.
pub record Request-met : Type 0 where
  pub lower : AllNeverLower (emptying 1) (emptying 3)
  pub accepted : PowerUpsAccepted first_start (emptying 1)
  pub accepted' : PowerUpsAccepted second_start (emptying 3)
  pub lossless : NothingLost first_start (emptying 1)
  pub unselected : NoQuarters first_start (emptying 1)
  pub selected : (after first_start (emptying 1)).board.core.control.selection ≡ 2
  -- one value stored; none, which sets the request; one again, which clears it
  pub before : (after first_start (take 5 (emptying 1))).board.request ≡ false
  pub set : (after first_start (take 6 (emptying 1))).board.request ≡ true
  pub cleared : (after first_start (take 7 (emptying 1))).board.request ≡ false

-- "lost nothing to a full buffer": a value that is lost to a closed one, fate 3, does not count. The buffer is closed for the value 3, then
-- open again, D16 and D17 left as they are; `code` is the size code of both writes.
abbrev pub shut_out : ℕ → ℕ → List Event
shut_out d code = fit d ∷ mask 1 ∷ load 1 ∷ load 2 ∷ bor (0x120 + code) ∷ load 3 ∷ bor (0x30020 + code) ∷ load 4 ∷ clk ∷ []

pub record Closed-met : Type 0 where
  pub lower : AllNeverLower (shut_out 0 0) (shut_out 1 15)
  pub accepted : PowerUpsAccepted first_start (shut_out 0 0)
  pub accepted' : PowerUpsAccepted second_start (shut_out 1 15)
  pub lossless : NothingLost first_start (shut_out 0 0)
  pub fate : (step (after first_start (take 5 (shut_out 0 0))) (load 3)).answer.fate ≡ 3

-- A power-up that both runs refuse, since a depth of 4,096 is more than either memory: both go on as they were.
abbrev pub refusing : ℕ → List Event
refusing d = fit d ∷ load 1 ∷ fit 9 ∷ load 2 ∷ []

pub record Refused-met : Type 0 where
  pub lower : AllNeverLower (refusing 1) (refusing 3)
  pub alike : PowerUpsAlike first_start (refusing 1) second_start (refusing 3)
  pub lossless : NothingLost first_start (refusing 1)
  pub refused : (step (after first_start (take 2 (refusing 1))) (fit 9)).answer.refusal ≡ 2
  pub values : stored (after first_start (refusing 1)) ≡ 1 ∷ 2 ∷ []

-- Power-ups must be answered alike: here the second run's is too deep for its memory, and the value loaded before it stays.
abbrev pub again : ℕ → List Event
again d = fit 0 ∷ load 1 ∷ fit d ∷ []

pub record Alike-matters : Type 0 where
  pub lower : AllNeverLower (again 1) (again 9)
  pub lossless : NothingLost first_start (again 1)
  pub differ : stored (after first_start (again 1)) ≢ stored (after second_start (again 9))

-- The premise on losses is needed: here the first run loses its ninth value, and the stored values differ from then on.
abbrev pub nine_loads : List Event
nine_loads = load 1 ∷ load 2 ∷ load 3 ∷ load 4 ∷ load 5 ∷ load 6 ∷ load 7 ∷ load 8 ∷ load 9 ∷ []

abbrev pub too_small : List Event
too_small = fit 0 ∷ nine_loads

abbrev pub large_enough : List Event
large_enough = fit 1 ∷ nine_loads

pub record Loss-matters : Type 0 where
  pub lower : AllNeverLower too_small large_enough
  pub accepted : PowerUpsAccepted first_start too_small
  pub accepted' : PowerUpsAccepted second_start large_enough
  pub differ : stored (after first_start too_small) ≢ stored (after second_start large_enough)

-- The premise on the quarters is needed: seven values are loaded, and v, which is written to BCR, selects the interrupt.
abbrev pub filling : ℕ → ℕ → List Event
filling v d = fit d ∷ bcr v ∷ load 1 ∷ load 2 ∷ load 3 ∷ load 4 ∷ load 5 ∷ load 6 ∷ load 7 ∷ []

-- sizes 8 and 32, interrupt n; every premise but that one is met
pub record RequestsDiffer (n v : ℕ) : Type 0 where
  pub lower : AllNeverLower (filling v 0) (filling v 2)
  pub accepted : PowerUpsAccepted first_start (filling v 0)
  pub accepted' : PowerUpsAccepted second_start (filling v 2)
  pub lossless : NothingLost first_start (filling v 0)
  pub selected : (after first_start (filling v 0)).board.core.control.selection ≡ n
  pub differ : (after first_start (filling v 0)).board.request ≢ (after second_start (filling v 2)).board.request

pub record Quarter-matters : Type 0 where
  -- D11 leaves the request set: at size 8 the second value clears it, at size 32 none of the seven does
  pub low : RequestsDiffer 3 0xB10
  -- D11 clears the request: at size 8 the sixth value sets it, at size 32 none does
  pub high : RequestsDiffer 4 0x410

-- The demand's words by computation, without its proof: one that says too much or too little is false here.
pub record Demand3-computed : Type 0 where
  -- "never lower": neither a fitted code nor a size code
  pub shallower : ¬ NeverLower (fit 3) (fit 1)
  pub smaller : ¬ NeverLower (bor 0x21) (bor 0x20)
  -- a value lost to a closed buffer does not count, and every clause holds
  pub passes : loses_nothing first_start (shut_out 0 0) ≡ true
  pub agree : Agree first_start (shut_out 0 0) second_start (shut_out 1 15)
  -- the interrupts 3 and 4 are the quarters
  pub low : ¬ NoQuarters first_start (filling 0xB10 0)
  pub high : ¬ NoQuarters first_start (filling 0x410 0)
