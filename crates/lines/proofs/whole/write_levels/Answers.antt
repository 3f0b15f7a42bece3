use Prim.Native.Nat.{◌<◌}
use mathlib.Core.Path.{◌≡◌}
use mathlib.Core.List.{[]}
use native.Mathlib.Numerals.{add-one}
use native.Mathlib.Omega.{arith}
use lib.ListN.{length, get_or, drop, drop_of_length-le}
use lib.Seq.{drop-cons}
use Rattle.listing_rules.specs.Text.{levels_in, levels_line}
use Rattle.file_rules.proofs.Joined.{then}
use Rattle.listing_rules.proofs.Numbers.{hex_long}
use Rattle.lines.proofs.whole.write_levels.Goals as goal

pub loop-level-preserved : goal.loop-level-preserved
unfolding levels_in
loop-level-preserved c =
    let levels = c.args.levels in
    let k = c.loop-level.level-index in
    let inside : k < length levels = omega arith in
    let level = then c.put_byte-p.ensures (rw c.from.ensures at c.put_hex-p.ensures) in (
      omega (arith, hex_long 4 (get_or levels k 0)),
      λ o q h. c.loop-level.invariant.1 o q (rw (drop-cons levels k 0) (then level (rw (add-one k) at h))),
    )

pub returns : goal.returns
unfolding levels_in levels_line
returns c =
    let levels = c.args.levels in
    let k = c.loop-level.level-index in
    let none : drop k levels ≡ [] = drop_of_length-le levels {i = k} (omega arith) in
    then c.put_bytes-p.ensures (c.loop-level.invariant.1 _ _ (rw none c.put_byte.ensures))
