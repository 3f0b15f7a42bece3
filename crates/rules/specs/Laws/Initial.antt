-- What initialise and power-up leave: all eight readings for every kit, the levels, the stored values, the request.
use Rattle.std.specs.Prelude.{ℕ, ◌+◌, ◌*◌, ◌≡◌, true, false, List, [], ◌∷◌, replicate}
use Rattle.rules.specs.Types.{Settings, Options, Board, power_up, write}
use Rattle.rules.specs.Bits.{bit, flag}
use Rattle.rules.specs.Record.{State, stored, sound, unpowered}
use Rattle.rules.specs.Parts.{no_burst}
use Rattle.rules.specs.Registers.{read_at}
use Rattle.rules.specs.Refusals.{refusal}
use Rattle.rules.specs.Step.{step}

-- 01: "Initialise: BCR 00000810h, mask of all fitted channels (000FFFFFh for kit 2), divisor 0064h, BOR 0000340Fh, 1Ch zero, empty
-- buffer, all 20 levels 8000h, cursor 0, no burst, settling, calibration or "calibrated"."
-- A state s that is fresh, with the options o, the fitted code d and the memory m.
pub record Fresh (o : Options) (d : ℕ) (m : List ℕ) (s : State) : Type 0 where
  pub control : read_at s.board 0x00 ≡ 0x00000810
  pub six : o.kit ≡ 0 → read_at s.board 0x04 ≡ 0x0000003F
  pub twelve : o.kit ≡ 1 → read_at s.board 0x04 ≡ 0x00000FFF
  pub twenty : o.kit ≡ 2 → read_at s.board 0x04 ≡ 0x000FFFFF
  pub rate : read_at s.board 0x08 ≡ 0x00000064
  pub buffer : read_at s.board 0x0C ≡ 0x0000340F
  pub assembly : read_at s.board 0x10 ≡ o.firmware + 0x10000 * o.range + 0x40000 * o.filter + 0x100000 * o.kit
  pub autocal : read_at s.board 0x14 ≡ 0
  pub output_data : read_at s.board 0x18 ≡ 0
  pub adjust : read_at s.board 0x1C ≡ 0
  -- what no register shows
  pub powered : s.board.core.powered ≡ true
  pub options : s.board.core.options ≡ o
  pub size : s.board.size ≡ record { fitted = d; code = 15 }
  pub divisor : s.board.core.clock.divisor ≡ 0x64
  pub levels : s.board.core.outputs.levels ≡ replicate 20 0x8000
  pub cursor : s.board.core.outputs.cursor ≡ 0
  pub burst : s.board.core.burst ≡ no_burst
  pub settling : s.board.core.clock.settling ≡ false
  pub calibrated : s.board.core.calibration.calibrated ≡ false
  -- 01: "Emptying sets both numbers to 0 and writes nothing."
  pub empty : stored s ≡ []
  pub ring : s.board.ring ≡ record { first = 0; count = 0 }
  pub memory : s.memory ≡ m
  -- 01: "Initialise just sets it."
  pub request : s.board.request ≡ true

-- every number and flag of a record, one after another
unfoldable pub fields : Board → List ℕ
fields b =
    flag b.core.powered
    ∷ b.core.options.range ∷ b.core.options.filter ∷ b.core.options.kit ∷ b.core.options.firmware
    ∷ flag b.core.control.bursts ∷ flag b.core.control.ground_sense ∷ flag b.core.control.binary
    ∷ flag b.core.control.differential ∷ flag b.core.control.barred ∷ flag b.core.control.simultaneous
    ∷ b.core.control.selection
    ∷ flag b.core.mode.external ∷ flag b.core.mode.enabled ∷ flag b.core.mode.circular
    ∷ flag b.core.calibration.running ∷ flag b.core.calibration.failed ∷ flag b.core.calibration.calibrated
    ∷ b.core.clock.divisor ∷ b.core.clock.nclk ∷ flag b.core.clock.alt ∷ flag b.core.clock.settling
    ∷ flag b.core.burst.running ∷ flag b.core.burst.software
    ∷ flag b.core.load.pending ∷ flag b.core.load.opened
    ∷ flag b.core.lost.full ∷ flag b.core.lost.closed
    ∷ b.size.fitted ∷ b.size.code
    ∷ flag b.request
    ∷ b.ring.first ∷ b.ring.count
    ∷ b.core.outputs.mask ∷ b.core.outputs.cursor ∷ b.core.outputs.levels

-- 01: "The unpowered record is all zero.": 35 numbers and flags, and twenty levels; and so it is not sound
pub record Zero (b : Board) : Type 0 where
  pub all : fields b ≡ replicate 55 0
  pub unsound : sound b ≡ false

abbrev pub Unpowered-zero : Type 0
Unpowered-zero = Zero unpowered

-- 01: "Power-up does the same."
abbrev pub Power-up-fresh : Type 0
Power-up-fresh =
    (s : State) (x : Settings)
    → refusal s (power_up x) ≡ 0
    → Fresh
    (record { range = x.range; filter = x.filter; kit = x.kit; firmware = x.firmware })
    x.fitted
    s.memory
    (step s (power_up x)).state

-- 01: "A BCR write with D15 set initialises and ignores its other bits."
abbrev pub Initialise-fresh : Type 0
Initialise-fresh =
    (s : State) (v : ℕ)
    → refusal s (write 0x00 v) ≡ 0
    → bit 15 v ≡ true
    → Fresh s.board.core.options s.board.size.fitted s.memory (step s (write 0x00 v)).state
