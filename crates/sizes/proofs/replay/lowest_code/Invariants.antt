-- The loop stands before a code, and those below it lose (proofs/Searching.antt).
use Rattle.sizes.proofs.Searching.{Trying}
use Rattle.sizes.proofs.replay.lowest_code.Given as goal

abbrev pub invariant-loop-code : goal.invariant-loop-code
invariant-loop-code l = Trying l.s l.initial.memory l.memory l.code
