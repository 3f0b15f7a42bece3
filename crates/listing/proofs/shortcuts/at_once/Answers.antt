-- A load that is stored, and a tick, are what the step says; the tests do not look at the levels.
use Prim.Native.Nat.{ℕ}
use mathlib.Core.Path.{refl, sym, subst, ◌∙◌}
use Rattle.rules.specs.Record.{State, state_of}
use Rattle.record.proofs.Depths.{depth_told}
use Rattle.moves.specs.Ready.{Ready}
use Rattle.moves.proofs.Clocking.{clocked_does}
use Rattle.board.proofs.Standing.{stands_ready, stands_sober}
use Rattle.listing.specs.Shortcuts.{board_with}
use Rattle.listing.proofs.AtOnce.{quick_load, quick_tick, stored_stepped, ticked_stepped, takes_with, ticks_with}
use Rattle.listing.proofs.shortcuts.at_once.Goals as goal

pub returns-in-Load : goal.returns-in-Load
returns-in-Load c =
    let a = c.args in
    let w = quick_load a.b a.d a.common c.in-Load.value c.in-Load.is c.requires.1 in
    let s : State = state_of (board_with a.b a.levels.now) a.memory.now in
    let st = c.requires.2 w.0 in
    rw c.in-Load.is
    (stored_stepped s a.d c.in-Load.value st (depth_told a.b _ c.requires.0 st.sound.fitted) (takes_with a.b a.d a.levels.now ∙ w.1)
    a.b.core _ _ refl c.load-stored.ensures)

pub returns-in-Tick : goal.returns-in-Tick
returns-in-Tick c =
    let a = c.args in
    let w = quick_tick a.b a.d a.common c.in-Tick.is c.requires.1 in
    let s : State = state_of (board_with a.b a.levels.now) a.memory.now in
    let st = c.requires.2 w.0 in
    let e = depth_told a.b _ c.requires.0 st.sound.fitted in
    let sober = stands_sober s st in
    let ready = subst (λ (k : ℕ). Ready k a.b.ring a.memory.now) (sym e) (stands_ready s st) in
    let does = clocked_does a.b.core a.b.ring a.d a.levels.now a.memory.now ready (record { mask = sober.mask; cursor = sober.cursor })
    _ _ _ _ c.serve-served.ensures c.deal-frame.ensures in
    rw c.in-Tick.is (ticked_stepped s a.d st e (ticks_with a.b.core a.levels.now ∙ w.1) _ _ refl does)
