-- The cuts of specs/InstancesAtSize meet the premises; what the theorems then say.
use Prim.Native.Nat.{ℕ, ◌%◌, ◌<◌, ◌^◌}
use mathlib.Core.Path.{◌≡◌, refl, subst}
use mathlib.Core.Bool.{true, false}
use mathlib.Core.List.{[], ◌∷◌}
use native.Mathlib.Omega.{arith}
use borrow.Author.Tests.{ltb-true, leb-true}
use lib.Dec.{ltb, leb}
use lib.ListN.{length, replicate}
use Rattle.rules.specs.declared.Settings.{Settings}
use Rattle.rules.specs.declared.Event.TheVariants.{PowerUp as power_up}
use Rattle.rules.specs.declared.Board.{Board}
use Rattle.rules.specs.Bits.{active}
use Rattle.rules.specs.Record.{State, state_of, depth_of, active_size, channels}
use Rattle.rules.specs.Refusals.{first_of, setting_rows, rows, refusal}
use Rattle.cut_rules.specs.Cut.{Cut, sample, chosen, numbers_from, groups, numbers}
use Rattle.cut_rules.specs.Plays.{Playable, control_first, buffer_first, InTurn, OnItsOutput, PlaysRead}
use Rattle.cut_rules.specs.PlaysAtSize.{EquippedAtSize}
use Rattle.cut_rules.specs.Examples.{cut_of_four}
use Rattle.instances.specs.Cuts.{six, cut_of_eight}
use Rattle.instances.specs.CutsAtSize.{deep, sixty_four, smallest_named, largest_named, sized_file, EightAtOnce, FourInTurn, Cuts-met-at-size}
use Rattle.cut_rules.proofs.Given.{bits_inside}
use Rattle.cut_rules.proofs.PlaysAtSize.{channel_plays_at_size, shipped_plays_at_size}
use Rattle.instances.proofs.Cuts.{four_good, eight_good, four_ordered, eight_ordered, files_read, same_told, lower_told, TurnsOf}

-- ---- Premises, by computation

equipped_at_size : (q : Cut) (s : State) (x : Settings) (w : ℕ) → refusal s (power_up x) ≡ 0 → ltb q.mask (2 ^ channels x.kit) ≡ true
    → leb (length (numbers q)) (active_size (record { fitted = x.fitted; code = w % 16 })) ≡ true → EquippedAtSize q s x w
equipped_at_size q s x w a m r =
    record {
      accepted = a;
      outputs = bits_inside (channels x.kit) q.mask (ltb-true _ _ m);
      room = leb-true _ _ r;
    }

eight_equipped : (b : Board) → EquippedAtSize cut_of_eight (state_of b sixty_four) deep 0xFFFFF6E0
unfolding refusal rows setting_rows first_of depth_of active_size channels active sample chosen numbers_from groups numbers
eight_equipped b = equipped_at_size cut_of_eight (state_of b sixty_four) deep 0xFFFFF6E0 refl refl refl

four_equipped : (b : Board) → EquippedAtSize cut_of_four (state_of b sixty_four) six 0x2F
unfolding refusal rows setting_rows first_of depth_of active_size channels active sample chosen numbers_from groups numbers
four_equipped b = equipped_at_size cut_of_four (state_of b sixty_four) six 0x2F refl refl refl

smallest_plays : Playable 0xFFFF5FFE 0xFFFFF6E0
smallest_plays =
    record { no_bursts = refl; no_calibration = refl; no_initialise = refl; generator = refl; enabled = refl; uncircled = refl; unemptied = refl }

largest_plays : Playable 0x00 0x2F
largest_plays =
    record { no_bursts = refl; no_calibration = refl; no_initialise = refl; generator = refl; enabled = refl; uncircled = refl; unemptied = refl }

-- ---- What is told of each

four_chosen : chosen cut_of_four ≡ 1 ∷ 3 ∷ []
unfolding active chosen
four_chosen = refl

four_turns : (at : ℕ → State) → InTurn cut_of_four false at (length (chosen cut_of_four)) → TurnsOf cut_of_four false at (1 ∷ 3 ∷ [])
four_turns at t = subst (TurnsOf cut_of_four false at) four_chosen (record { plays = t.plays; holds = t.holds; over = t.over })

eight_at_once : (at : ℕ → State) → OnItsOutput cut_of_eight 0xFFFF5FFE at → EightAtOnce at
unfolding sample groups
eight_at_once at h =
    let g = h.simultaneous refl in
    let first : 0 < groups cut_of_eight = omega arith in
    let second : 1 < groups cut_of_eight = omega arith in
    record {
      first = (
        same_told 0x0100 (g.plays 0 0 first refl) refl (omega arith),
        same_told 0x0103 (g.plays 0 3 first refl) refl (omega arith),
        same_told 0x0110 (g.plays 0 16 first refl) refl (omega arith),
        same_told 0x0112 (g.plays 0 18 first refl) refl (omega arith),
      );
      second = (
        same_told 0x9100 (g.plays 1 0 second refl) refl (omega arith),
        same_told 0x9103 (g.plays 1 3 second refl) refl (omega arith),
        same_told 0x9110 (g.plays 1 16 second refl) refl (omega arith),
        same_told 0x9112 (g.plays 1 18 second refl) refl (omega arith),
      );
      held = (g.holds 0 1 first refl, g.holds 1 17 second refl, g.holds 1 20 second refl);
      over = g.over;
    }

four_in_turn : (at : ℕ → State) → OnItsOutput cut_of_four 0x00 at → FourInTurn at
unfolding sample groups
four_in_turn at h =
    let t = four_turns at (h.sequential refl) in
    let first : 0 < groups cut_of_four = omega arith in
    let second : 1 < groups cut_of_four = omega arith in
    record {
      first = (
        lower_told 0x2001 (t.plays 0 0 first (omega arith)) refl (omega arith),
        lower_told 0x2003 (t.plays 0 1 first (omega arith)) refl (omega arith),
      );
      second = (
        lower_told 0x3001 (t.plays 1 0 second (omega arith)) refl (omega arith),
        lower_told 0x3003 (t.plays 1 1 second (omega arith)) refl (omega arith),
      );
      held = λ k n. (t.holds 0 1 k first (omega arith) n, t.holds 1 1 k second (omega arith) n);
      over = t.over;
    }

-- ---- The theorems

eight_file : PlaysRead cut_of_eight 0xFFFF5FFE sixty_four (sized_file cut_of_eight 0 deep smallest_named)
eight_file =
    shipped_plays_at_size cut_of_eight deep 0xFFFF5FFE 0xFFFFF6E0 smallest_named sixty_four (replicate 73 0) 0 eight_ordered.sixteen eight_good
    (eight_equipped _) smallest_plays (omega arith) (omega arith) control_first

four_file : PlaysRead cut_of_four 0x00 sixty_four (sized_file cut_of_four 32 six largest_named)
four_file =
    shipped_plays_at_size cut_of_four six 0x00 0x2F largest_named sixty_four (replicate 73 0) 32 four_ordered.sixteen four_good
    (four_equipped _) largest_plays (omega arith) (omega arith) buffer_first

pub cuts_met_at_size : Cuts-met-at-size
cuts_met_at_size =
    record {
      eight_equipped = eight_equipped;
      four_equipped = four_equipped;
      eight_heard = λ b.
          eight_at_once _
          (channel_plays_at_size cut_of_eight (state_of b sixty_four) deep 0xFFFF5FFE 0xFFFFF6E0 smallest_named eight_ordered (eight_equipped b) smallest_plays control_first);
      four_heard = λ b.
          four_in_turn _
          (channel_plays_at_size cut_of_four (state_of b sixty_four) six 0x00 0x2F largest_named four_ordered (four_equipped b) largest_plays buffer_first);
      eight_read = files_read _ _ _ _ eight_file;
      eight_shipped = eight_at_once _ eight_file.plays;
      four_read = files_read _ _ _ _ four_file;
      four_shipped = four_in_turn _ four_file.plays;
    }
