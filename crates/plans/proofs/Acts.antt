-- What the rules make of each write and signal is what its plan comes to.
use Prim.Native.Nat.{ℕ, ◌≤◌}
use mathlib.Core.Path.{◌≡◌, refl}
use mathlib.Core.Bool.{Bool, true, false, cond, ◌&&◌}
use mathlib.Core.List.{List}
use native.Mathlib.Nat.{le_refl}
use native.Mathlib.Omega.{arith}
use lib.Dec.{eqb}
use Rattle.rules.specs.Bits.{bit}
use Rattle.rules.specs.Clocks.{clear, only, clock, clock_accepted, tick_accepted, on_tick, on_outside}
use Rattle.rules.specs.declared.Fate.TheVariants.{NoLoad as none}
use Rattle.rules.specs.Writes.{buffer_of, tried, write_buffer, write_control, write_mask, write_rate, write_adjust, on_write}
use Rattle.rules.proofs.Choice.{either}
use Rattle.rules.specs.declared.Core.{Core}
use Rattle.plans.specs.declared.Act.TheVariants.{Nothing, Empties, Clocks}
use Rattle.plans.specs.Parts.{carried, Within, core_of, buffer_act, clocks_if}

module _ (c : Core) (buf : List ℕ) (full : Bool) where
  -- ---- Clocks

  clocked_if : (t : Bool) → cond t (clock c buf) (only c) ≡ carried (clocks_if t) c buf full
  unfolding carried clocks_if
  clocked_if true = refl
  clocked_if false = refl

  pub plays_tick : on_tick c buf ≡ carried (clocks_if (tick_accepted c)) c buf full
  unfolding on_tick
  plays_tick = clocked_if (tick_accepted c)

  pub plays_outside : on_outside c buf ≡ carried (clocks_if (clock_accepted c)) c buf full
  unfolding on_outside
  plays_outside = clocked_if (clock_accepted c)

  -- ---- A write to 0Ch

  pub plays_buffer : (v : ℕ) → write_buffer c buf v ≡ carried (buffer_act v (clock_accepted (buffer_of v c))) (buffer_of v c) buf full
  unfolding write_buffer tried on_outside carried buffer_act
  plays_buffer v = go (bit 11 v) (bit 7 v) (clock_accepted (buffer_of v c))
    where
      k : Core
      k = buffer_of v c

      go : (t u w : Bool) → cond t (record { core = k; op = clear; moved = 0; fate = none }) (cond u (cond w (clock k buf) (only k)) (only k))
          ≡ carried (cond t Empties (cond (u && w) Clocks Nothing)) k buf full
      go true u w = unfold carried in refl
      go false true true = unfold carried in refl
      go false true false = unfold carried in refl
      go false false w = unfold carried in refl

  -- ---- A write that neither initialises, nor is to 0Ch or 18h

  pub plays_core : (o v : ℕ) → eqb o 0x0C ≡ false → eqb o 0x18 ≡ false → eqb o 0x00 && bit 15 v ≡ false
      → on_write c buf full o v ≡ only (core_of c o v)
  plays_core o v h k n = go (eqb o 0x00) (eqb o 0x04) (eqb o 0x08) refl refl refl
    where
      go : (t u w : Bool) → eqb o 0x00 ≡ t → eqb o 0x04 ≡ u → eqb o 0x08 ≡ w → on_write c buf full o v ≡ only (core_of c o v)
      go true u w t p q = unfold on_write core_of write_control in rw (t, rw t at n)
      go false true w t p q = unfold on_write core_of write_mask in rw (t, p)
      go false false true t p q = unfold on_write core_of write_rate in rw (t, p, q)
      go false false false t p q = unfold on_write core_of write_adjust in rw (t, p, q, h, k)

-- ---- The mask and the cursor

-- a BOR write leaves the mask, and the cursor or 0
pub buffer_within : (v : ℕ) (c : Core) → Within c (buffer_of v c)
unfolding buffer_of
buffer_within v c = record { mask = refl; cursor = either (λ (n : ℕ). n ≤ c.outputs.cursor) (bit 11 v) (omega arith) (le_refl c.outputs.cursor) }

pub same_within : (c : Core) → Within c c
same_within c = record { mask = refl; cursor = le_refl c.outputs.cursor }
