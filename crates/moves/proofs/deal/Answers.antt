use Prim.Native.Nat.{ℕ}
use mathlib.Core.Path.{◌≡◌, sym, ap, ◌∙◌}
use mathlib.Core.Bool.{Bool, false, cond}
use mathlib.Core.List.{List}
use native.Mathlib.Omega.{arith}
use lib.ListN.{length}
use Rattle.rules.specs.Bits.{bit, active_from}
use Rattle.rules.specs.Clocks.{burst_after, load_after}
use Rattle.channels.proofs.Ones.{channels_below}
use Rattle.moves.specs.Ready.{fits}
use Rattle.moves.specs.Deal.{dealing, deal_all}
use Rattle.moves.proofs.Loop.{one_dealt, inv_start, inv_below, inv_ready, inv_turn, inv_served, inv_empty}
use Rattle.moves.proofs.Tested.{served_ready}
use Rattle.moves.proofs.deal.Goals as goal
use Rattle.moves.proofs.deal.Goals.{then-fits, else-fits, in-None, in-Some+then-ring-eq0}

pub loop-k-init : goal.loop-k-init
loop-k-init c =
    let a = c.args in
    let served : c.if-fits.served ≡ cond c.fits.result a.mask 0 =
    elim c.if-fits.branch [ then-fits w ↦ rw w.if-fits.true w.served-is | else-fits w ↦ rw w.if-fits.false w.served-is ] in
    let e = c.into_iter-k-iterator.ensures.into_iter_gives ∙ c.of-k-items.ensures in
    rw e (inv_start (channels_below _) (served_ready a.x.ring a.d a.memory.now a.mask _ _ c.fits.ensures served))

pub pass-passed-requires : goal.pass-passed-requires
pass-passed-requires c =
    let l = c.loop-k in
    let v = rw c.in-Some.ensures.steps at l.invariant in
    (inv_ready v, omega arith)

pub offset_bounds-levels-k : goal.offset_bounds-levels-k
offset_bounds-levels-k c = let v = rw c.in-Some.ensures.steps at c.loop-k.invariant in omega (arith, inv_below v)

pub bounds-levels-k : goal.bounds-levels-k
bounds-levels-k c = let v = rw c.in-Some.ensures.steps at c.loop-k.invariant in omega (arith, inv_below v)

pub loop-k-preserved : goal.loop-k-preserved
loop-k-preserved c =
    let l = c.loop-k in
    let a = c.args in
    let p = c.pass-passed.ensures in
    let v = rw c.in-Some.ensures.steps at l.invariant in
    let dealt = one_dealt a.binary a.again a.d c.in-Some.k l.levels l.ring l.marks l.memory _ _ _ _ c.coded.ensures p.0 p.1 p.2 in
    inv_turn v (omega arith) dealt

pub returns : goal.returns
returns c =
    let a = c.args in
    let l = c.loop-k in
    let end : dealing l.levels l.ring (bit 16 l.marks) l.memory
    ≡ deal_all a.binary a.again a.d c.into_iter-k-iterator.result (dealing a.levels.now a.x.ring false a.memory.now) =
    elim c.match-next.branch [
      | in-None w ↦ inv_served l.invariant w.in-None.ensures.steps.0
      | in-Some+then-ring-eq0 w ↦ inv_empty l.invariant w.if-ring-eq0.true
    ] in
    let served : c.if-fits.served ≡ cond (fits a.x.ring a.d (length a.memory.now)) a.mask 0 =
    elim c.if-fits.branch [ then-fits w ↦ rw (sym c.fits.ensures, w.if-fits.true) w.served-is | else-fits w ↦ rw (sym c.fits.ensures, w.if-fits.false) w.served-is ] in
    let channels = c.into_iter-k-iterator.ensures.into_iter_gives ∙ c.of-k-items.ensures ∙ ap (active_from 0) served in
    let marked = c.bit-ended.ensures.told in
    record {
      ended = bit 16 l.marks;
      dealt = end ∙ ap (λ (ks : List ℕ). deal_all a.binary a.again a.d ks (dealing a.levels.now a.x.ring false a.memory.now)) channels;
      burst = c.burst_after.ensures ∙ ap (λ (t : Bool). burst_after t a.x.burst) marked;
      load = c.load_after.ensures ∙ ap (λ (t : Bool). load_after t a.x.load) marked;
    }
