-- A load that is stored has its place (`stored_fits`); any other changes nothing.
use Prim.Native.Nat.{ℕ, ◌%◌}
use mathlib.Core.Path.{refl, ap}
use native.Mathlib.Omega.{arith}
use borrow.Author.Rules.{rules}
use lib.ListN.{set}
use Rattle.moves.proofs.Tested.{stored_fits}
use Rattle.moves.proofs.Storing.{stored_loaded, lost_loaded}
use Rattle.moves.proofs.load.Goals as goal

pub overflow_add-ring : goal.overflow_add-ring
overflow_add-ring c =
    let f = stored_fits c.fate_of-fate.ensures c.in-Stored.is in
    search (rules, f.room, f.ready.first, f.ready.small)

pub wrapped-at-requires : goal.wrapped-at-requires
wrapped-at-requires c =
    let f = stored_fits c.fate_of-fate.ensures c.in-Stored.is in
    omega (arith, f.room, f.ready.first)

pub bounds-memory-at : goal.bounds-memory-at
bounds-memory-at c =
    let f = stored_fits c.fate_of-fate.ensures c.in-Stored.is in
    omega (arith, f.ready.enough, c.wrapped-at.ensures.1)

pub overflow_add-count : goal.overflow_add-count
overflow_add-count c =
    let f = stored_fits c.fate_of-fate.ensures c.in-Stored.is in
    search (rules, f.room, f.ready.small)

pub returns-in-Stored : goal.returns-in-Stored
returns-in-Stored c =
    let a = c.args in
    let f = stored_fits c.fate_of-fate.ensures c.in-Stored.is in
    stored_loaded a.c a.size a.ring a.d a.v a.memory.now _ _ f c.in-Stored.is refl (ap (λ (at : ℕ). set a.memory.now at (a.v % 131072)) c.wrapped-at.ensures.0)

pub returns-in_default : goal.returns-in_default
returns-in_default c =
    let a = c.args in
    lost_loaded a.c a.size a.ring a.d a.v a.memory.now _ _ refl refl c.fate_of-fate.ensures c.in_default.not-Stored
