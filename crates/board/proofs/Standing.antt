-- What a sound record over enough memory gives the code to count on.
use Prim.Native.Nat.{ℕ, ◌^◌, ◌≤◌}
use native.Mathlib.Nat.{le_trans}
use native.Mathlib.Omega.{arith}
use lib.Pow.{pow_mono}
use Rattle.rules.specs.Record.{State, depth_of, depth}
use Rattle.rules.specs.Laws.Soundness.{Stands}
use Rattle.rules.proofs.Sizes.{channels_le}
use Rattle.rules.proofs.Soundness.{sound_core_lem}
use Rattle.moves.specs.Ready.{Ready}
use Rattle.channels.specs.Serving.{Sober}

depth_small : (d : ℕ) → d ≤ 15 → depth_of d ≤ 262144
unfolding depth_of
depth_small d h = let p : 2 ^ d ≤ 2 ^ 15 = pow_mono h in omega arith

pub stands_ready : (s : State) → Stands s → Ready (depth s.board) s.board.ring s.memory
stands_ready s h =
    record {
      first = h.sound.first;
      count = h.sound.count;
      enough = h.enough;
      small = depth_small s.board.size.fitted h.sound.fitted;
    }

pub stands_sober : (s : State) → Stands s → Sober s.board.core
stands_sober s h =
    let c = sound_core_lem s.board h.sound in
    record {
      mask = le_trans c.outputs.mask (pow_mono (channels_le s.board.core.options.kit));
      cursor = h.sound.cursor;
    }
