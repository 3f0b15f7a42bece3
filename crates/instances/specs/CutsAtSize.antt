-- Cuts that meet the premises of the theorems of specs/PlaysAtSize: a board deeper than the size that is named, and one less deep.
-- What the theorems then say of them, clause by clause.
use Rattle.std.specs.Prelude.{ℕ, ◌≡◌, ◌≢◌, List, [], ◌∷◌, ◌++◌, replicate}
use Rattle.rules.specs.declared.Settings.{Settings}
use Rattle.rules.specs.declared.Event.{Event}
use Rattle.rules.specs.declared.Event.TheVariants.{Write as write}
use Rattle.rules.specs.declared.Board.{Board}
use Rattle.rules.specs.Record.{State, state_of, stored, start}
use Rattle.rules.specs.Session.{after}
use Rattle.laws.specs.Moved.{level_at}
use Rattle.file_rules.specs.File.{session}
use Rattle.cut_rules.specs.Cut.{Cut, events}
use Rattle.cut_rules.specs.Plays.{powered, many_ticks, cut_bytes}
use Rattle.cut_rules.specs.PlaysAtSize.{EquippedAtSize, shipped_at_size}
use Rattle.cut_rules.specs.Examples.{cut_of_four}
use Rattle.instances.specs.Cuts.{six, cut_of_eight, FilesRead}

-- a depth of 64 values, all twenty channels
abbrev pub deep : Settings
deep = record { fitted = 3; range = 0; filter = 0; kit = 2; firmware = 0 }

abbrev pub sixty_four : List ℕ
sixty_four = replicate 64 0xFFFFFFFF

-- offset binary, all channels of a group at once; a 1 in every bit that is free, but the size code is 0
abbrev pub smallest_named : List Event
smallest_named = write 0x00 0xFFFF5FFE ∷ write 0x0C 0xFFFFF6E0 ∷ []

-- two's complement, one channel after the other; the size code is 15
abbrev pub largest_named : List Event
largest_named = write 0x0C 0x2F ∷ write 0x00 0x00 ∷ []

-- the board after n ticks: a power-up on the old record b, the two writes, the cut
abbrev pub sized_board : Board → Cut → Settings → List Event → ℕ → State
sized_board b q x two n = after (powered (state_of b sixty_four) x) (two ++ (events q ++ many_ticks n))

-- the file that is shipped, its cut written into an output of 73 bytes, from the place on; the board after its n ticks
abbrev pub sized_file : Cut → ℕ → Settings → List Event → ℕ → List ℕ
sized_file q place x two = shipped_at_size x two (cut_bytes q (replicate 73 0) place)

abbrev pub sized_file_board : Cut → ℕ → Settings → List Event → ℕ → State
sized_file_board q place x two n = after (start sixty_four) (session (sized_file q place x two n)).events

-- the second cut, a group a tick; outputs 1 and 17 are not chosen, and 20 is none
pub record EightAtOnce (at : ℕ → State) : Type 0 where
  pub first : (level_at (at 1) 0 ≡ 0x0100) × (level_at (at 1) 3 ≡ 0x0103) × (level_at (at 1) 16 ≡ 0x0110) × (level_at (at 1) 18 ≡ 0x0112)
  pub second : (level_at (at 2) 0 ≡ 0x9100) × (level_at (at 2) 3 ≡ 0x9103) × (level_at (at 2) 16 ≡ 0x9110) × (level_at (at 2) 18 ≡ 0x9112)
  pub held : (level_at (at 1) 1 ≡ level_at (at 0) 1) × (level_at (at 2) 17 ≡ level_at (at 1) 17) × (level_at (at 2) 20 ≡ level_at (at 1) 20)
  pub over : stored (at 2) ≡ []

-- the first cut, a channel a tick; two's complement
pub record FourInTurn (at : ℕ → State) : Type 0 where
  pub first : (level_at (at 1) 1 ≡ 0xA001) × (level_at (at 2) 3 ≡ 0xA003)
  pub second : (level_at (at 3) 1 ≡ 0xB001) × (level_at (at 4) 3 ≡ 0xB003)
  pub held : (k : ℕ) → k ≢ 3 → (level_at (at 2) k ≡ level_at (at 1) k) × (level_at (at 4) k ≡ level_at (at 3) k)
  pub over : stored (at 4) ≡ []

pub record Cuts-met-at-size : Type 0 where
  -- eight values on a depth of 64, and the size named is 8; four on a depth of 8, and the size named would be 262,144
  pub eight_equipped : (b : Board) → EquippedAtSize cut_of_eight (state_of b sixty_four) deep 0xFFFFF6E0
  pub four_equipped : (b : Board) → EquippedAtSize cut_of_four (state_of b sixty_four) six 0x2F
  -- Channel-plays-at-size
  pub eight_heard : (b : Board) → EightAtOnce (sized_board b cut_of_eight deep smallest_named)
  pub four_heard : (b : Board) → FourInTurn (sized_board b cut_of_four six largest_named)
  -- Shipped-plays-at-size
  pub eight_read : FilesRead sixty_four (sized_file cut_of_eight 0 deep smallest_named)
  pub eight_shipped : EightAtOnce (sized_file_board cut_of_eight 0 deep smallest_named)
  pub four_read : FilesRead sixty_four (sized_file cut_of_four 32 six largest_named)
  pub four_shipped : FourInTurn (sized_file_board cut_of_four 32 six largest_named)
