-- The parts of the reply are those of the rules' step.
use mathlib.Core.Path.{◌≡◌, ap, ◌∙◌}
use Rattle.rules.specs.Record.{state_of}
use Rattle.rules.specs.Size.{size_after}
use Rattle.rules.specs.Interrupt.{request_held, request_after}
use Rattle.rules.specs.Step.{board_before, with_request}
use Rattle.rules.proofs.Sizes.{size_depth}
use Rattle.rules.proofs.Refusals.{refusal_stands}
use Rattle.record.proofs.Depths.{depth_told}
use Rattle.board.specs.Types.{Board}
use Rattle.board.proofs.Standing.{stands_ready, stands_sober}
use Rattle.board.proofs.Planning.{moves_ordinary, moves_sober, planned_does}
use Rattle.board.proofs.Whole.{request_told, done_stepped}
use Rattle.board.proofs.steps.done.Goals as goal

pub register-value-requires : goal.register-value-requires
register-value-requires c = λ o. (refusal_stands _ _ o c.requires).sound.fitted

pub carry-p-requires : goal.carry-p-requires
carry-p-requires c =
    λ k. let a = c.args in
    let w = c.plan_of.ensures in
    let st = refusal_stands (state_of a.b a.memory.now) a.e (moves_ordinary a.b.core a.e w k) c.requires in
    rw (depth_told a.b _ c.depth.ensures st.sound.fitted)
    (stands_ready _ st, moves_sober a.b.core a.e w k (stands_sober _ st), st.sound.fitted, size_depth a.b.size)

pub returns : goal.returns
unfolding board_before
returns c =
    let a = c.args in
    let s = state_of a.b a.memory.now in
    let p = planned_does s a.e _ _ _ _ c.requires c.plan_of.ensures c.depth.ensures c.carry-p.ensures in
    let b : c.board_before-after.result ≡ board_before s a.e =
    c.board_before-after.ensures
    ∙ (λ i. record { core = p.core i; size = size_after a.b.size a.e; request = request_held a.b.request a.e; ring = p.ring i }) in
    let kept = ap (λ (x : Board). x.size) c.board_before-after.ensures in
    let q = c.request_after.ensures.told ∙ request_told s a.e _ c.requires kept ∙ ap (request_after a.e a.b) b in
    done_stepped s a.e _ _ c.requires
    (λ i. record { refusal = 0; register = c.register-value.ensures i; moved = p.moved i; fate = p.fate i })
    (λ i. with_request (q i) (b i))
    p.memory
