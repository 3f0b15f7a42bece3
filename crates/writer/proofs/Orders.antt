-- The refusal of an order, by what was found of it: whether it is grouped, whether its choice is good, and whether there is room.
use Prim.Native.Nat.{ℕ, ◌/◌}
use mathlib.Core.Path.{◌≡◌, ap, ◌∙◌}
use mathlib.Core.Bool.{true, false, not}
use lib.ListN.{length}
use Rattle.rules.specs.Refusals.{first_of}
use Rattle.rules.proofs.Choice.{cond_true, cond_false}
use Rattle.file_rules.specs.Bytes.{file_of}
use Rattle.cut_rules.specs.Cut.{Cut, events, is_grouped, is_choice, cut_refusal}
use Rattle.cut_rules.proofs.Given.{grouped_to, choice_to}
use Rattle.writer.specs.Orders.{GoodOrder}
use Rattle.writer.specs.Room.{room_refusal}

module _ (q : Cut) where
  pub good_order : is_grouped q ≡ true → is_choice q ≡ true → GoodOrder q
  good_order e f = record { count = length q.recording / q.channels; grouped = grouped_to q e; choice = choice_to q f }

  module _ (n place : ℕ) where
    pub ungrouped : is_grouped q ≡ false → cut_refusal q n place ≡ 22
    unfolding cut_refusal first_of
    ungrouped e = cond_true _ _ _ (ap not e)

    pub unchosen : is_grouped q ≡ true → is_choice q ≡ false → cut_refusal q n place ≡ 23
    unfolding cut_refusal first_of
    unchosen e f = cond_false _ _ _ (ap not e) ∙ cond_true _ _ _ (ap not f)

    pub by_room : is_grouped q ≡ true → is_choice q ≡ true → cut_refusal q n place ≡ room_refusal n place (length (file_of (events q)))
    unfolding cut_refusal first_of room_refusal
    by_room e f = cond_false _ _ _ (ap not e) ∙ cond_false _ _ _ (ap not f)
