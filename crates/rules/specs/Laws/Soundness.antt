-- Soundness as facts, clause by clause.
use Rattle.std.specs.Prelude.{ℕ, ◌≤◌, ◌<◌, ◌≡◌, ◌↔◌, true, false, length}
use Rattle.rules.specs.Types.{Board}
use Rattle.rules.specs.Bits.{bit}
use Rattle.rules.specs.Record.{State, depth, channels, sound}

-- 01: "A record is sound when: .."
pub record Sound (b : Board) : Type 0 where
  -- "powered; settings in range"
  pub powered : b.core.powered ≡ true
  pub fitted : b.size.fitted ≤ 15
  pub range : b.core.options.range ≤ 2
  pub filter : b.core.options.filter ≤ 2
  pub kit : b.core.options.kit ≤ 2
  pub firmware : b.core.options.firmware ≤ 4095
  -- "first < depth; count ≤ depth"
  pub first : b.ring.first < depth b
  pub count : b.ring.count ≤ depth b
  -- "no mask bit for a channel that isn't fitted"
  pub mask : (k : ℕ) → bit k b.core.outputs.mask ≡ true → k < channels b.core.options.kit
  -- "channel cursor ≤ 20, and 0 in simultaneous mode"
  pub cursor : b.core.outputs.cursor ≤ 20
  pub zeroed : b.core.control.simultaneous ≡ true → b.core.outputs.cursor ≡ 0
  -- "size code ≤ 15; interrupt selection ≤ 7; Nclk ≤ 511"
  pub code : b.size.code ≤ 15
  pub selection : b.core.control.selection ≤ 7
  pub nclk : b.core.clock.nclk ≤ 511
  -- "load pending or opened only if circular, and never both"
  pub pending : b.core.load.pending ≡ true → b.core.mode.circular ≡ true
  pub opened : b.core.load.opened ≡ true → b.core.mode.circular ≡ true
  pub apart : b.core.load.pending ≡ true → b.core.load.opened ≡ false
  -- "burst in progress only with bursts enabled; software-started only with a burst"
  pub running : b.core.burst.running ≡ true → b.core.control.bursts ≡ true
  pub software : b.core.burst.software ≡ true → b.core.burst.running ≡ true
  -- "not both calibrating and calibrated"
  pub calibrating : b.core.calibration.running ≡ true → b.core.calibration.calibrated ≡ false

-- a sound record over a memory as long as its depth, or longer
pub record Stands (s : State) : Type 0 where
  pub sound : Sound s.board
  pub enough : depth s.board ≤ length s.memory

-- ---- The law

-- The test is exactly the facts.
abbrev pub Sound-exactly : Type 0
Sound-exactly = (b : Board) → (sound b ≡ true) ↔ Sound b
