-- What is told of a serving, by whether any values are to move.
use Prim.Native.Nat.{ℕ}
use mathlib.Core.Path.{◌≡◌, refl}
use mathlib.Core.Bool.{true, false}
use lib.Dec.{eqb}
use Rattle.rules.specs.declared.Core.{Core}
use Rattle.rules.specs.Clocks.{closed, cursor_after}
use Rattle.rules.proofs.Choice.{cond_true, cond_false}
use Rattle.channels.specs.Serving.{to_move, served_by, serving_of}

module _ (c : Core) (n : ℕ) where
  pub again_closed : (serving_of c n).again ≡ closed c
  unfolding serving_of
  again_closed = refl

  pub moved_told : (serving_of c n).moved ≡ to_move c n
  unfolding serving_of
  moved_told = refl

  pub mask_none : eqb (to_move c n) 0 ≡ true → (serving_of c n).mask ≡ 0
  unfolding serving_of
  mask_none e = cond_true _ _ _ e

  pub mask_some : eqb (to_move c n) 0 ≡ false → (serving_of c n).mask ≡ served_by c
  unfolding serving_of
  mask_some e = cond_false _ _ _ e

  pub cursor_none : eqb (to_move c n) 0 ≡ true → (serving_of c n).cursor ≡ c.outputs.cursor
  unfolding serving_of
  cursor_none e = cond_true _ _ _ e

  pub cursor_some : eqb (to_move c n) 0 ≡ false → (serving_of c n).cursor ≡ cursor_after c
  unfolding serving_of
  cursor_some e = cond_false _ _ _ e
