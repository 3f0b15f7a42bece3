-- A good order chooses no more than the recording has.
use Prim.Native.Nat.{ℕ, suc, ◌*◌, ◌-◌, ◌≤◌}
use native.Mathlib.Nat.{mul-le-mul, mul-le-mul_right, le-mul_of_pos_right}
use native.Mathlib.Omega.{arith}
use lib.Count.{ones-le}
use lib.ListN.{length}
use Rattle.rules.proofs.Masks.{below_bits}
use Rattle.cut_rules.specs.Cut.{Cut}
use Rattle.writer.specs.Cutting.{values_of}
use Rattle.writer.specs.Orders.{GoodOrder}

module _ {q : Cut} (g : GoodOrder q) where
  -- so many groups, and no more, are in the recording
  pub groups_within : (j : ℕ) → j ≤ g.count → j * q.channels ≤ length q.recording
  groups_within j l = omega (arith, g.grouped.whole, mul-le-mul_right q.channels l)

  pub chosen_within : suc q.last * q.channels ≤ length q.recording
  chosen_within = groups_within (suc q.last) (omega (arith, g.choice.within))

  pub last_small : suc q.last ≤ length q.recording
  last_small = omega (arith, chosen_within, le-mul_of_pos_right (suc q.last) g.grouped.some)

  pub values_small : values_of q.first q.last q.mask ≤ length q.recording
  values_small =
      let ones_small = ones-le q.channels q.mask (below_bits q.channels q.mask g.choice.inside) in
      let groups_small : suc q.last - q.first ≤ g.count = omega (arith, g.choice.within) in
      omega (arith, g.grouped.whole, mul-le-mul groups_small ones_small)
