-- A board record written to a row: its fields in the order of their places, part by part, and the levels last; `Round-trip` (Laws.antt)
-- holds this order to Places.antt. A bool is 0 or 1.
--   board_row b   the row of a record
use Rattle.std.specs.Prelude.{ℕ, Bool, List, [], ◌∷◌, ◌++◌}
use Rattle.rules.specs.declared.Options.{Options}
use Rattle.rules.specs.declared.Size.{Size}
use Rattle.rules.specs.declared.Control.{Control}
use Rattle.rules.specs.declared.Mode.{Mode}
use Rattle.rules.specs.declared.Calibration.{Calibration}
use Rattle.rules.specs.declared.Clock.{Clock}
use Rattle.rules.specs.declared.Burst.{Burst}
use Rattle.rules.specs.declared.Load.{Load}
use Rattle.rules.specs.declared.Lost.{Lost}
use Rattle.rules.specs.declared.Outputs.{Outputs}
use Rattle.rules.specs.declared.Ring.{Ring}
use Rattle.rules.specs.declared.Board.{Board}
use Rattle.rules.specs.Bits.{flag}

abbrev pub head_row : Bool → Options → Size → List ℕ
head_row powered o s = flag powered ∷ o.range ∷ o.filter ∷ o.kit ∷ o.firmware ∷ s.fitted ∷ s.code ∷ []

abbrev pub control_row : Control → List ℕ
control_row c =
    flag c.bursts ∷ flag c.ground_sense ∷ flag c.binary ∷ flag c.differential ∷ flag c.barred
    ∷ flag c.simultaneous ∷ c.selection ∷ []

abbrev pub modes_row : Mode → Calibration → List ℕ
modes_row m c =
    flag m.external ∷ flag m.enabled ∷ flag m.circular
    ∷ flag c.running ∷ flag c.failed ∷ flag c.calibrated ∷ []

abbrev pub clock_row : Clock → Burst → Load → Lost → List ℕ
clock_row c b l o =
    c.divisor ∷ c.nclk ∷ flag c.alt ∷ flag c.settling ∷ flag b.running ∷ flag b.software
    ∷ flag l.pending ∷ flag l.opened ∷ flag o.full ∷ flag o.closed ∷ []

abbrev pub ring_row : Outputs → Bool → Ring → List ℕ
ring_row o request r = o.mask ∷ o.cursor ∷ flag request ∷ r.first ∷ r.count ∷ []

-- all of a row but the levels
abbrev pub fields_row : Board → List ℕ
fields_row b =
    let c = b.core in
    head_row c.powered c.options b.size ++ control_row c.control ++ modes_row c.mode c.calibration
    ++ clock_row c.clock c.burst c.load c.lost ++ ring_row c.outputs b.request b.ring

unfoldable pub board_row : Board → List ℕ
board_row b = fields_row b ++ b.core.outputs.levels
