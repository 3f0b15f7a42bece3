-- The listing after its heading, as a loop over the records writes it: the line of an event and then the rest; at the end the tail.
use Prim.Native.Nat.{ℕ, ◌+◌, ◌^◌, ◌<◌, ◌≤◌}
use mathlib.Core.Path.{◌≡◌, refl}
use mathlib.Core.List.{List, [], ◌∷◌, ◌++◌, append_assoc}
use native.Mathlib.Omega.{arith}
use lib.ListN.{length}
use Rattle.rules.specs.declared.Event.{Event}
use Rattle.rules.specs.Record.{State}
use Rattle.rules.specs.Step.{step}
use Rattle.rules.specs.Session.{outcomes, after}
use Rattle.file_rules.specs.Item.{End}
use Rattle.file_rules.specs.Item.{File, Refused}
use Rattle.file_rules.specs.Item.{Over}
use Rattle.file_rules.specs.File.{Session, verdict}
use Rattle.file_rules.proofs.Sessions.{PlaceInFile}
use Rattle.listing_rules.specs.Text.{line}
use Rattle.listing_rules.specs.Listing.{lines, levels_of, ending, body}

module _ (k : ℕ) (st : State) where
  pub body_event : (e : Event) (y : Session)
      → body k st (record { events = e ∷ y.events; end = y.end })
      ≡ line k (step st e).answer (step st e).state.board.ring.count ++ body (k + 1) (step st e).state y
  unfolding lines outcomes after
  body_event e y =
      append_assoc (line k (step st e).answer (step st e).state.board.ring.count) (lines (k + 1) (outcomes (step st e).state y.events))
      (ending y.end (levels_of (after (step st e).state y.events)))

  pub body_end : (z : End) → body k st (record { events = []; end = z }) ≡ ending z (levels_of st)
  unfolding lines outcomes after
  body_end z = refl

-- the place of a refusal in a file that is not too long has few digits
pub in_reach : (s : List ℕ) (z : End) → length s ≤ 65536 → PlaceInFile s (Over z) → (verdict z).place < 2 ^ 32
in_reach s File h w = omega arith
in_reach s (Refused why p) h w = omega arith
