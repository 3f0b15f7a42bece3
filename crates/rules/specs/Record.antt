-- The board record and its memory (01, "The board record and its memory").
--   State        a board record with its lent sample memory; state_of puts the two together
--   depth b      how many values fit the board; active_size s: how many the active buffer holds
--   stored s     the stored values in order, the oldest first
--   sound b      01's list, clause by clause
--   unpowered    the record that a run starts from
use Rattle.std.specs.Prelude.{ℕ, zero, suc, ◌+◌, ◌*◌, ◌%◌, ◌^◌, min, Bool, false, not, ◌&&◌, ◌||◌, cond, List, [], ◌∷◌, leb, ltb, eqb, get_or, replicate}
use Rattle.rules.specs.Types.{Options, Size, Core, Ring, Board}
use Rattle.rules.specs.Bits.{all, only_if}

pub record State : Type 0 where
  pub board : Board
  pub memory : List ℕ

abbrev pub state_of : Board → List ℕ → State
state_of board memory = record { board = board; memory = memory }

-- ---- Settings

-- 01: "a fitted code d (0 to 15), range, filter and kit codes (0 to 2) and a firmware number (0 to 4095)"
abbrev pub fitted_in_range : ℕ → Bool
fitted_in_range d = leb d 15

abbrev pub code_in_range : ℕ → Bool
code_in_range n = leb n 2

abbrev pub firmware_in_range : ℕ → Bool
firmware_in_range n = leb n 4095

unfoldable pub options_in_range : Options → Bool
options_in_range o = all (code_in_range o.range ∷ code_in_range o.filter ∷ code_in_range o.kit ∷ firmware_in_range o.firmware ∷ [])

-- ---- Sizes

-- 01: "The depth is 8·2^d values."
unfoldable pub depth_of : ℕ → ℕ
depth_of d = 8 * 2 ^ d

abbrev pub depth : Board → ℕ
depth b = depth_of b.size.fitted

-- 01: "The active size is 8·2^m, where m is the lesser of size code and d."
unfoldable pub active_size : Size → ℕ
active_size s = 8 * 2 ^ min s.code s.fitted

-- 01: "kit 0: 6 channels, 1: 12, 2: 20"
unfoldable pub channels : ℕ → ℕ
channels kit = cond (eqb kit 0) 6 (cond (eqb kit 1) 12 20)

-- ---- Stored values

-- 01: "one value each: bits 15..0 data, bit 16 the end-of-frame mark (EOF). Only those 17 bits are used or written"
abbrev pub value_span : ℕ
value_span = 2 ^ 17

abbrev pub level_span : ℕ
level_span = 2 ^ 16

-- `count` values from the entry `first` on, wrapping at the depth
unfoldable pub values : ℕ → ℕ → ℕ → List ℕ → List ℕ
values depth first zero memory = []
values depth first (suc count) memory = get_or memory first 0 % value_span ∷ values depth ((first + 1) % depth) count memory

unfoldable pub stored : State → List ℕ
stored s = values (depth s.board) s.board.ring.first s.board.ring.count s.memory

-- ---- Soundness

-- 01: "A record is sound when: .." The clauses that speak of sizes and places are in sound_ring.
unfoldable pub sound_core : Core → Bool
sound_core c =
    all (
    -- "powered; settings in range"
    c.powered
    ∷ options_in_range c.options
    -- "no mask bit for a channel that isn't fitted"
    ∷ ltb c.outputs.mask (2 ^ channels c.options.kit)
    -- "channel cursor ≤ 20, and 0 in simultaneous mode"
    ∷ leb c.outputs.cursor 20
    ∷ only_if c.control.simultaneous (eqb c.outputs.cursor 0)
    -- "interrupt selection ≤ 7; Nclk ≤ 511"
    ∷ leb c.control.selection 7
    ∷ leb c.clock.nclk 511
    -- "load pending or opened only if circular, and never both"
    ∷ only_if (c.load.pending || c.load.opened) c.mode.circular
    ∷ not (c.load.pending && c.load.opened)
    -- "burst in progress only with bursts enabled; software-started only with a burst"
    ∷ only_if c.burst.running c.control.bursts
    ∷ only_if c.burst.software c.burst.running
    -- "not both calibrating and calibrated"
    ∷ not (c.calibration.running && c.calibration.calibrated)
    ∷ [])

-- "settings in range" (the fitted code); "size code ≤ 15"; "first < depth; count ≤ depth"
unfoldable pub sound_ring : Size → Ring → Bool
sound_ring s r =
    all (
    fitted_in_range s.fitted
    ∷ leb s.code 15
    ∷ ltb r.first (depth_of s.fitted)
    ∷ leb r.count (depth_of s.fitted)
    ∷ [])

unfoldable pub sound : Board → Bool
sound b = sound_core b.core && sound_ring b.size b.ring

-- ---- The unpowered record

-- 01: "The unpowered record is all zero."
unfoldable pub unpowered : Board
unpowered =
    record {
      core = record {
        powered = false;
        options = record { range = 0; filter = 0; kit = 0; firmware = 0 };
        control = record {
          bursts = false;
          ground_sense = false;
          binary = false;
          differential = false;
          barred = false;
          simultaneous = false;
          selection = 0;
        };
        mode = record { external = false; enabled = false; circular = false };
        calibration = record { running = false; failed = false; calibrated = false };
        clock = record { divisor = 0; nclk = 0; alt = false; settling = false };
        burst = record { running = false; software = false };
        load = record { pending = false; opened = false };
        lost = record { full = false; closed = false };
        outputs = record { mask = 0; cursor = 0; levels = replicate 20 0 };
      };
      size = record { fitted = 0; code = 0 };
      request = false;
      ring = record { first = 0; count = 0 };
    }

abbrev pub start : List ℕ → State
start memory = state_of unpowered memory
