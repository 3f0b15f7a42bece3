use Prim.Native.Nat.{ℕ, ◌+◌}
use mathlib.Core.Path.{◌≡◌, refl, subst}
use native.Mathlib.Numerals.{add-one}
use native.Mathlib.Omega.{arith}
use lib.ListN.{length}
use lib.Seq.{take_all, take-suc}
use Rattle.file_rules.specs.Pieces.{Piece}
use Rattle.file_rules.proofs.Joined.{then}
use Rattle.lines.proofs.pieces.put_bytes.Goals as goal

pub loop-i-init : goal.loop-i-init
loop-i-init c = record { place = omega arith; text = refl }

pub loop-i-preserved : goal.loop-i-preserved
loop-i-preserved c =
    let l = c.loop-i in
    let grown = take-suc c.args.text.now l.i 0 c.loop-i-test.true in
    rw (add-one, grown) (then l.invariant (record { place = omega arith; text = refl }))

pub returns : goal.returns
returns c =
    let l = c.loop-i in
    let text = c.args.text.now in
    let all : l.i ≡ length text = omega (arith, l.auto.i-end, c.loop-i-test.false) in
    subst (λ (n : ℕ). Piece c.args.out.now c.args.at text l.out (c.args.at + n)) all (rw (take_all l.i text c.loop-i-test.false) at l.invariant)
