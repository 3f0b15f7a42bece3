use mathlib.Core.Path.{sym, ◌∙◌}
use native.Mathlib.Omega.{arith}
use Rattle.hex_text.proofs.Rests.{sofar_start, sofar_length, sofar_passed, sofar_byte, sofar_full, sofar_fault, sofar_end}
use Rattle.hex_text.proofs.decode.Goals as goal

pub loop-at-init : goal.loop-at-init
loop-at-init c = sofar_start _ _ _ c.opening-at.ensures

pub loop-at-preserved-in-Passed : goal.loop-at-preserved-in-Passed
loop-at-preserved-in-Passed c =
    let l = c.loop-at in
    sofar_passed _ _ _ _ _ _ l.invariant (omega arith) _ (sym c.in-Passed.is ∙ c.mark_at.ensures)

pub shape_of-out-then-out-n : goal.shape_of-out-then-out-n
shape_of-out-then-out-n c = sofar_length _ _ _ _ _ _ c.loop-at.invariant

pub returns-then-out-n : goal.returns-then-out-n
returns-then-out-n c =
    let l = c.loop-at in
    sofar_full _ _ _ _ _ _ l.invariant (omega arith) _ (sym c.in-Byte.is ∙ c.mark_at.ensures) (omega arith)

pub loop-at-preserved : goal.loop-at-preserved
loop-at-preserved c =
    let l = c.loop-at in
    sofar_byte _ _ _ _ _ _ l.invariant (omega arith) _ (sym c.in-Byte.is ∙ c.mark_at.ensures) (omega (arith, sofar_length _ _ _ _ _ _ l.invariant))

pub shape_of-out-in-Fault : goal.shape_of-out-in-Fault
shape_of-out-in-Fault c = sofar_length _ _ _ _ _ _ c.loop-at.invariant

pub returns-in-Fault : goal.returns-in-Fault
returns-in-Fault c =
    let l = c.loop-at in
    sofar_fault _ _ _ _ _ _ l.invariant (omega arith) (sym c.in-Fault.is ∙ c.mark_at.ensures)

pub shape_of-out : goal.shape_of-out
shape_of-out c = sofar_length _ _ _ _ _ _ c.loop-at.invariant

pub returns : goal.returns
returns c = sofar_end _ _ _ _ _ _ c.loop-at.invariant (omega arith)
