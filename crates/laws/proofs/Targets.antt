-- The channels that a clock gives values to: the next one in sequential mode, all active ones in simultaneous mode.
use Prim.Native.Nat.{ℕ, zero, ◌-◌, ◌≤◌, ◌<◌, zero-le}
use mathlib.Core.Path.{◌≡◌, refl, sym, ap, ◌∙◌}
use mathlib.Core.Logic.{◌≢◌, ◌⊎◌, inl, inr, ⊎_elim}
use mathlib.Core.Bool.{Bool, true, false, cond, true≢false}
use mathlib.Core.List.{List, [], ◌∷◌}
use native.Mathlib.Nat.{zero-lt-suc, div-one}
use native.Mathlib.Omega.{arith}
use lib.Count.{ones}
use lib.ListN.{length}
use Rattle.laws.specs.Types.{Core, Board}
use Rattle.rules.specs.Bits.{bit, active_from, head_or}
use Rattle.rules.specs.Clocks.{next_channel, targets}
use Rattle.rules.specs.Laws.Soundness.{Sound}
use Rattle.laws.specs.Moved.{group_size, Among, LowestFrom, Sequential-target, Simultaneous-targets}
use Rattle.rules.proofs.Choice.{either, not_true}
use Rattle.rules.proofs.Masks.{below_bits}
use Rattle.rules.proofs.Sizes.{channels_le}
use Rattle.laws.proofs.Actives.{active_to, active_from_lem, active_ascending, Begins, active_begins, active_length, active_ones}
use Rattle.laws.proofs.Among.{among_nil, among_cons, Ascending, ascending_nil, ascending_cons}
use Rattle.laws.proofs.Lasting.{next_below}

-- ---- The mask of a sound record

-- k is the lowest active channel at or above the cursor; or the lowest active one, none being at or above the cursor
abbrev Next : ℕ → ℕ → ℕ → Type 0
Next mask cursor k = LowestFrom mask cursor k ⊎ (LowestFrom mask 0 k × ((j : ℕ) → cursor ≤ j → bit j mask ≡ false))

module _ (b : Board) (s : Sound b) where
  abbrev mask : ℕ
  mask = b.core.outputs.mask

  abbrev cursor : ℕ
  cursor = b.core.outputs.cursor

  active_lt : (k : ℕ) → bit k mask ≡ true → k < 20
  active_lt k t = omega (arith, s.mask k t, channels_le b.core.options.kit)

  -- a mask other than 0 has a lowest active channel
  mask_begins : mask ≢ 0 → (x : ℕ) × (xs : List ℕ) × (active_from 0 mask ≡ x ∷ xs) × LowestFrom mask 0 x
  mask_begins m = go (active_begins 20 0 mask)
    where
      go : Begins 20 0 mask (active_from 0 mask) → (x : ℕ) × (xs : List ℕ) × (active_from 0 mask ≡ x ∷ xs) × LowestFrom mask 0 x
      go (inl t) =
          let z : mask < 1 = below_bits 0 mask (λ k h. absurd (true≢false (sym h ∙ t.1 k zero-le (active_lt k h)))) in
          absurd (m (omega arith))
      go (inr t) = t

  -- ---- Sequential mode

  next_lowest : mask ≢ 0 → Next mask cursor (next_channel b.core)
  unfolding next_channel head_or
  next_lowest m = go (active_begins (20 - cursor) cursor mask)
    where
      go : Begins (20 - cursor) cursor mask (active_from cursor mask) → Next mask cursor (next_channel b.core)
      go (inl t) =
          let u = mask_begins m in
          inr (rw (t.0, u.2) u.3, λ j a. not_true (bit j mask) (λ h. true≢false (sym h ∙ t.1 j a (omega (arith, active_lt j h)))))
      go (inr t) = inl (rw t.2 t.3)

pub sequential_target : Sequential-target
unfolding targets
sequential_target b s m e = (next_channel b.core, rw e, next_below b.core s.cursor, next_lowest b s m)

-- ---- Simultaneous mode

mask_ones : (b : Board) → Sound b → length (active_from 0 b.core.outputs.mask) ≡ ones b.core.outputs.mask
mask_ones b s =
    let e = div-one (mask b s) in
    active_ones 20 0 (mask b s) (rw e (below_bits 20 (mask b s) (active_lt b s))) ∙ ap ones e

pub simultaneous_targets : Simultaneous-targets
unfolding targets
simultaneous_targets b s e =
    rw e
    (record {
      active = λ k. (λ h. (active_to 20 0 _ k h).0, λ t. active_from_lem 20 0 _ k zero-le (active_lt b s k t) t);
      ascending = active_ascending 20 0 _;
      as_many_as_ones = mask_ones b s;
    })

-- ---- Either mode

-- as many as a clock moves
pub targets_group : (b : Board) → Sound b → length (targets b.core) ≡ group_size b
unfolding targets group_size
targets_group b s = go b.core.control.simultaneous
  where
    go : (t : Bool) → length (cond t (active_from 0 (mask b s)) (next_channel b.core ∷ [])) ≡ cond t (ones (mask b s)) 1
    go true = mask_ones b s
    go false = refl

pub group_pos : (b : Board) → Sound b → b.core.outputs.mask ≢ 0 → zero < group_size b
unfolding targets
group_pos b s m =
    rw (← targets_group b s)
    (either (λ (ks : List ℕ). zero < length ks) b.core.control.simultaneous (rw (mask_begins b s m).2 (zero-lt-suc _)) (zero-lt-suc 0))

pub targets_ascending : (c : Core) → Ascending (targets c)
unfolding targets
targets_ascending c =
    either Ascending c.control.simultaneous (active_ascending 20 0 c.outputs.mask)
    (ascending_cons (next_channel c) [] (λ j h. absurd (among_nil j h)) ascending_nil)

pub targets_below : (b : Board) → Sound b → (k : ℕ) → Among k (targets b.core) → k < 20
unfolding targets
targets_below b s k =
    either (λ (ks : List ℕ). Among k ks → k < 20) b.core.control.simultaneous
    (λ h. active_lt b s k (active_to 20 0 (mask b s) k h).0)
    (λ h. ⊎_elim (λ e. rw (← e) (next_below b.core s.cursor)) (λ h. absurd (among_nil k h)) (among_cons k _ [] h))

pub targets_length : (c : Core) → length (targets c) ≤ 20
unfolding targets
targets_length c =
    either (λ (ks : List ℕ). length ks ≤ 20) c.control.simultaneous (active_length 20 0 c.outputs.mask) (omega arith)
