-- A board record read from a row: each field from its place (Places.antt). Any number but 0 is true, and a level is taken modulo 10000h.
--   board_at row   the record that a row says
use Rattle.std.specs.Prelude.{ℕ, ◌%◌, Bool, not, List, map, eqb, get_or, take, drop}
use Rattle.rules.specs.declared.Options.{Options}
use Rattle.rules.specs.declared.Size.{Size}
use Rattle.rules.specs.declared.Control.{Control}
use Rattle.rules.specs.declared.Mode.{Mode}
use Rattle.rules.specs.declared.Calibration.{Calibration}
use Rattle.rules.specs.declared.Clock.{Clock}
use Rattle.rules.specs.declared.Burst.{Burst}
use Rattle.rules.specs.declared.Load.{Load}
use Rattle.rules.specs.declared.Lost.{Lost}
use Rattle.rules.specs.declared.Core.{Core}
use Rattle.rules.specs.declared.Board.{Board}
use Rattle.rules.specs.Record.{level_span}
use Rattle.rows.specs.Places as places

abbrev pub at : List ℕ → ℕ → ℕ
at row i = get_or row i 0

abbrev pub is_on : List ℕ → ℕ → Bool
is_on row i = not (eqb (at row i) 0)

-- ---- Part by part

abbrev pub options_at : List ℕ → Options
options_at row = record { range = at row places.range; filter = at row places.filter; kit = at row places.kit; firmware = at row places.firmware }

abbrev pub size_at : List ℕ → Size
size_at row = record { fitted = at row places.fitted; code = at row places.code }

abbrev pub control_at : List ℕ → Control
control_at row =
    record {
      bursts = is_on row places.bursts;
      ground_sense = is_on row places.ground_sense;
      binary = is_on row places.binary;
      differential = is_on row places.differential;
      barred = is_on row places.barred;
      simultaneous = is_on row places.simultaneous;
      selection = at row places.selection;
    }

abbrev pub mode_at : List ℕ → Mode
mode_at row = record { external = is_on row places.external; enabled = is_on row places.enabled; circular = is_on row places.circular }

abbrev pub calibration_at : List ℕ → Calibration
calibration_at row = record { running = is_on row places.calibration_running; failed = is_on row places.failed; calibrated = is_on row places.calibrated }

abbrev pub clock_at : List ℕ → Clock
clock_at row = record { divisor = at row places.divisor; nclk = at row places.nclk; alt = is_on row places.alt; settling = is_on row places.settling }

abbrev pub burst_at : List ℕ → Burst
burst_at row = record { running = is_on row places.burst_running; software = is_on row places.software }

abbrev pub load_at : List ℕ → Load
load_at row = record { pending = is_on row places.pending; opened = is_on row places.opened }

abbrev pub lost_at : List ℕ → Lost
lost_at row = record { full = is_on row places.full; closed = is_on row places.closed }

unfoldable pub levels_at : List ℕ → List ℕ
levels_at row = map (λ (x : ℕ). x % level_span) (take places.level_count (drop places.levels row))

unfoldable pub core_at : List ℕ → Core
core_at row =
    record {
      powered = is_on row places.powered;
      options = options_at row;
      control = control_at row;
      mode = mode_at row;
      calibration = calibration_at row;
      clock = clock_at row;
      burst = burst_at row;
      load = load_at row;
      lost = lost_at row;
      outputs = record { mask = at row places.mask; cursor = at row places.cursor; levels = levels_at row };
    }

unfoldable pub board_at : List ℕ → Board
board_at row =
    record {
      core = core_at row;
      size = size_at row;
      request = is_on row places.request;
      ring = record { first = at row places.first; count = at row places.count };
    }
