-- What a plan means, and parts of it that the code takes by themselves.
--   carried a c buf full   what the rules make of the act a on the core c, the stored values being buf
--   MovesOrStores a        the act may move a value or store one
--   Within c k             the core k has the mask of c, and a cursor no higher
--   core_of c o v           a write that changes the core alone, at each offset that has one
use Rattle.std.specs.Prelude.{ℕ, ◌≤◌, ◌≡◌, Bool, cond, ◌&&◌, List, eqb}
use Rattle.rules.specs.declared.Core.{Core}
use Rattle.plans.specs.declared.Act.{Act}
use Rattle.plans.specs.declared.Act.TheVariants.{Nothing, Empties, Clocks, Loads}
use Rattle.rules.specs.Bits.{bit}
use Rattle.rules.specs.Clocks.{Play, clear, only, clock}
use Rattle.rules.specs.declared.Fate.TheVariants.{NoLoad as none}
use Rattle.rules.specs.Writes.{write_control, write_mask, write_rate, write_adjust, write_data}

unfoldable pub carried : Act → Core → List ℕ → Bool → Play
carried Nothing c buf full = only c
carried Empties c buf full = record { core = c; op = clear; moved = 0; fate = none }
carried Clocks c buf full = clock c buf
carried (Loads v) c buf full = write_data c full v

unfoldable pub MovesOrStores : Act → Type 0
MovesOrStores Nothing = ⊥
MovesOrStores Empties = ⊥
MovesOrStores Clocks = Unit {0}
MovesOrStores (Loads v) = Unit {0}

pub record Within (c k : Core) : Type 0 where
  pub mask : k.outputs.mask ≡ c.outputs.mask
  pub cursor : k.outputs.cursor ≤ c.outputs.cursor

-- ---- Parts

unfoldable pub core_of : Core → ℕ → ℕ → Core
core_of c o v =
    cond (eqb o 0x00) (write_control c v).core
    (cond (eqb o 0x04) (write_mask c v).core
    (cond (eqb o 0x08) (write_rate c v).core
    (write_adjust c v).core))

-- of a write to 0Ch, whose core then accepts a software clock or not
unfoldable pub buffer_act : ℕ → Bool → Act
buffer_act v accepted = cond (bit 11 v) Empties (cond (bit 7 v && accepted) Clocks Nothing)

unfoldable pub clocks_if : Bool → Act
clocks_if accepted = cond accepted Clocks Nothing
