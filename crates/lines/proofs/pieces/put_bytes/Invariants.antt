-- `put_bytes` meets its contract. The loop's invariant: the text before `i` is written, and nothing else.
use Prim.Native.Nat.{◌+◌}
use lib.ListN.{take}
use Rattle.file_rules.specs.Pieces.{Piece}
use Rattle.lines.proofs.pieces.put_bytes.Given as goal

abbrev pub invariant-loop-i : goal.invariant-loop-i
invariant-loop-i l = Piece l.initial.out l.at (take l.i l.text) l.out (l.at + l.i)
