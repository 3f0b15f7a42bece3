-- Each act does what the rules make of it.
use mathlib.Core.Path.{refl, ap, ◌∙◌}
use Rattle.rules.specs.Record.{active_size}
use Rattle.rules.specs.Place.{place}
use Rattle.record.proofs.Depths.{capped_same}
use Rattle.moves.proofs.Still.{only_does}
use Rattle.moves.proofs.Clocking.{clocked_does}
use Rattle.plans.specs.Parts.{carried, MovesOrStores}
use Rattle.board.proofs.Losing.{load_does}
use Rattle.board.proofs.carry.carry.Goals as goal

pub returns-in-Nothing : goal.returns-in-Nothing
unfolding carried
returns-in-Nothing c = rw (c.in-Nothing.is, c.still.ensures) (only_does _ _ _ _)

pub returns-in-Empties : goal.returns-in-Empties
unfolding carried place
returns-in-Empties c =
    let zero = c.default.ensures in
    rw (c.in-Empties.is, c.still-in-Empties.ensures) (record { core = refl; moved = refl; fate = refl; ring = λ i. record { first = zero.0 i; count = zero.1 i }; memory = refl })

pub returns-in-Clocks : goal.returns-in-Clocks
unfolding carried MovesOrStores
returns-in-Clocks c =
    let a = c.args in
    let q = c.requires (rw c.in-Clocks.is tt) in
    let w = clocked_does a.p.core a.ring a.d a.p.core.outputs.levels a.memory.now q.0 q.1 _ _ _ _ c.serve-s.ensures c.deal-x.ensures in
    rw (c.in-Clocks.is, c.still-in-Clocks.ensures) (record { core = c.clocked.ensures ∙ w.core; moved = w.moved; fate = w.fate; ring = w.ring; memory = w.memory })

pub returns-in-Loads : goal.returns-in-Loads
unfolding carried MovesOrStores
returns-in-Loads c =
    let a = c.args in
    let q = c.requires (rw c.in-Loads.is tt) in
    let size = c.active_size.ensures.told ∙ ap active_size (capped_same _ q.2) in
    rw (c.in-Loads.is, ← size, c.still-in-Loads.ensures)
    (load_does a.p.core _ a.ring a.d _ a.memory.now _ _ _ q.0 (rw size q.3) c.load-s.ensures c.lost_by.ensures)
