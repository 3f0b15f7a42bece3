-- The depth is asked for only of a sound record, whose fitted code is in range.
use Prim.Native.Nat.{ℕ}
use mathlib.Core.Path.{◌≡◌, refl}
use mathlib.Core.Bool.{Bool, true, false, cond}
use lib.Dec.{eqb, ltb}
use Rattle.rules.specs.declared.Board.{Board}
use Rattle.rules.specs.Record.{depth, sound}
use Rattle.rules.specs.Told.{Told}
use Rattle.rules.specs.Numbered.{refusal_number}
use Rattle.record.specs.Capped.{capped_board}
use Rattle.rules.proofs.Equal.{told_true, told_false}
use Rattle.rules.proofs.Soundness.{sound_exactly}
use Rattle.record.proofs.Depths.{depth_told}
use Rattle.refusals.proofs.events.judge_record.Goals as goal

pub returns-then-not-is_sound : goal.returns-then-not-is_sound
unfolding refusal_number
returns-then-not-is_sound c =
    let unsound : sound c.args.b ≡ false = told_false c.is_sound.ensures c.if-not-is_sound.true in
    λ m h n. rw unsound

-- past the first test the record is sound, and what was told is its depth
its_depth : (b : Board) (r : ℕ) → sound b ≡ true → Told (depth (capped_board b)) r → r ≡ depth b
its_depth b r s p = depth_told b r p ((sound_exactly _).0 s).fitted

short_else : (t : Bool) (n : ℕ) → cond t 2 n ≡ cond (eqb (cond t 2 0) 0) n (cond t 2 0)
short_else true n = refl
short_else false n = refl

pub returns : goal.returns
returns c =
    λ m h n.
    let is_so = told_true c.is_sound.ensures c.if-not-is_sound.false in
    let d = its_depth c.args.b _ is_so c.depth.ensures in
    rw (is_so, h, c.judge_memory.ensures, d) (short_else (ltb c.args.len (depth c.args.b)) n)
