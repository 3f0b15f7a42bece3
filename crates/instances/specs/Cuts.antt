-- Cuts that meet the premises of the theorems of specs/Plays: several groups, a choice with gaps, on the smallest kit and on the largest.
-- What the theorems then say of them, clause by clause.
use Rattle.std.specs.Prelude.{ℕ, ◌≤◌, ◌≡◌, ◌≢◌, List, [], ◌∷◌, ◌++◌, map, length, get_or, replicate}
use Rattle.rules.specs.declared.Settings.{Settings}
use Rattle.rules.specs.declared.Event.{Event}
use Rattle.rules.specs.declared.Event.TheVariants.{Write as write}
use Rattle.rules.specs.declared.Board.{Board}
use Rattle.rules.specs.Record.{State, state_of, stored, start}
use Rattle.rules.specs.Step.{Outcome}
use Rattle.rules.specs.Session.{outcomes, after}
use Rattle.laws.specs.Moved.{level_at}
use Rattle.file_rules.specs.Item.{File}
use Rattle.file_rules.specs.File.{session}
use Rattle.cut_rules.specs.Cut.{Cut, events}
use Rattle.cut_rules.specs.Plays.{Ordered, Equipped, StoredInOrder, powered, many_ticks, shipped, cut_bytes, OnItsOutput}
use Rattle.cut_rules.specs.Examples.{cut_of_four}

-- the smallest board: a depth of 8 values, six channels; and one with all twenty
abbrev pub six : Settings
six = record { fitted = 0; range = 0; filter = 0; kit = 0; firmware = 0 }

abbrev pub twenty : Settings
twenty = record { fitted = 0; range = 0; filter = 0; kit = 2; firmware = 0 }

-- eight values are left over from something else
abbrev pub left_over : List ℕ
left_over = replicate 8 0xFFFFFFFF

-- two groups of twenty channels: 0x0100 to 0x0113, and 0x9100 to 0x9113
abbrev pub two_groups : List ℕ
two_groups =
    0x0100 ∷ 0x0101 ∷ 0x0102 ∷ 0x0103 ∷ 0x0104 ∷ 0x0105 ∷ 0x0106 ∷ 0x0107 ∷ 0x0108 ∷ 0x0109
    ∷ 0x010A ∷ 0x010B ∷ 0x010C ∷ 0x010D ∷ 0x010E ∷ 0x010F ∷ 0x0110 ∷ 0x0111 ∷ 0x0112 ∷ 0x0113
    ∷ 0x9100 ∷ 0x9101 ∷ 0x9102 ∷ 0x9103 ∷ 0x9104 ∷ 0x9105 ∷ 0x9106 ∷ 0x9107 ∷ 0x9108 ∷ 0x9109
    ∷ 0x910A ∷ 0x910B ∷ 0x910C ∷ 0x910D ∷ 0x910E ∷ 0x910F ∷ 0x9110 ∷ 0x9111 ∷ 0x9112 ∷ 0x9113
    ∷ []

-- the manual's example, "Channels 3, 16 and 18", and channel 0: eight numbers, as many as the depth
abbrev pub cut_of_eight : Cut
cut_of_eight = record { recording = two_groups; channels = 20; first = 0; last = 1; mask = 0x50009 }

-- offset binary, all channels of a group at once; and two's complement, one after the other, the writes the other way round, with a 1 in
-- every bit that is free: D7 of 0Ch tries a software clock, and the size code is 15
abbrev pub together : List Event
together = write 0x00 0x90 ∷ write 0x0C 0x20 ∷ []

abbrev pub in_turn : List Event
in_turn = write 0x0C 0xFFFFF6EF ∷ write 0x00 0xFFFF5F6E ∷ []

-- the board after n ticks: a power-up on the old record b, the cut, the two writes
abbrev pub played_board : Board → Cut → Settings → List Event → ℕ → State
played_board b q x two n = after (powered (state_of b left_over) x) (events q ++ (two ++ many_ticks n))

-- the file that is shipped, its cut written into an output of 73 bytes, from the place on; the board after its n ticks
abbrev pub shipped_file : Cut → ℕ → Settings → List Event → ℕ → List ℕ
shipped_file q place x two = shipped x (cut_bytes q (replicate 73 0) place) two

abbrev pub shipped_board : Cut → ℕ → Settings → List Event → ℕ → State
shipped_board q place x two n = after (start left_over) (session (shipped_file q place x two n)).events

-- ---- What is told of them

-- every event answers refusal 0, and fate 0 or 1
pub record AllAnswered (os : List Outcome) : Type 0 where
  pub refusals : map (λ (o : Outcome). o.answer.refusal) os ≡ replicate (length os) 0
  pub fates : (i : ℕ) → get_or (map (λ (o : Outcome). o.answer.fate) os) i 0 ≤ 1

-- files with n ticks, run over the memory m: each is read to its end
pub record FilesRead (m : List ℕ) (file : ℕ → List ℕ) : Type 0 where
  pub whole : (n : ℕ) → (session (file n)).end ≡ File
  pub answers : (n : ℕ) → AllAnswered (outcomes (start m) (session (file n)).events)

-- the first cut, a group a tick; outputs 0 and 2 are not chosen, and 20 is none
pub record FourAtOnce (at : ℕ → State) : Type 0 where
  pub first : (level_at (at 1) 1 ≡ 0x2001) × (level_at (at 1) 3 ≡ 0x2003)
  pub second : (level_at (at 2) 1 ≡ 0x3001) × (level_at (at 2) 3 ≡ 0x3003)
  pub held : (level_at (at 1) 0 ≡ level_at (at 0) 0) × (level_at (at 2) 2 ≡ level_at (at 1) 2) × (level_at (at 2) 20 ≡ level_at (at 1) 20)
  pub over : stored (at 2) ≡ []

-- the second cut, a channel a tick; two's complement
pub record EightInTurn (at : ℕ → State) : Type 0 where
  pub first : (level_at (at 1) 0 ≡ 0x8100) × (level_at (at 2) 3 ≡ 0x8103) × (level_at (at 3) 16 ≡ 0x8110) × (level_at (at 4) 18 ≡ 0x8112)
  pub second : (level_at (at 5) 0 ≡ 0x1100) × (level_at (at 6) 3 ≡ 0x1103) × (level_at (at 7) 16 ≡ 0x1110) × (level_at (at 8) 18 ≡ 0x1112)
  pub held : (k : ℕ) → k ≢ 16 → (level_at (at 3) k ≡ level_at (at 2) k) × (level_at (at 7) k ≡ level_at (at 6) k)
  pub over : stored (at 8) ≡ []

pub record Cuts-met : Type 0 where
  -- Cut-stored
  pub four_ordered : Ordered cut_of_four
  pub four_equipped : (b : Board) → Equipped cut_of_four (state_of b left_over) six
  pub four_stored : (b : Board) → StoredInOrder cut_of_four (powered (state_of b left_over) six)
  pub four_answers : (b : Board) → AllAnswered (outcomes (powered (state_of b left_over) six) (events cut_of_four))
  pub four_values : (b : Board) → stored (after (powered (state_of b left_over) six) (events cut_of_four)) ≡ 0x2001 ∷ 0x2003 ∷ 0x3001 ∷ 0x13003 ∷ []
  pub eight_ordered : Ordered cut_of_eight
  pub eight_equipped : (b : Board) → Equipped cut_of_eight (state_of b left_over) twenty
  pub eight_stored : (b : Board) → StoredInOrder cut_of_eight (powered (state_of b left_over) twenty)
  pub eight_answers : (b : Board) → AllAnswered (outcomes (powered (state_of b left_over) twenty) (events cut_of_eight))
  pub eight_values : (b : Board) → stored (after (powered (state_of b left_over) twenty) (events cut_of_eight))
      ≡ 0x0100 ∷ 0x0103 ∷ 0x0110 ∷ 0x0112 ∷ 0x9100 ∷ 0x9103 ∷ 0x9110 ∷ 0x19112 ∷ []
  -- Channel-plays
  pub four_heard : (b : Board) → FourAtOnce (played_board b cut_of_four six together)
  pub eight_heard : (b : Board) → EightInTurn (played_board b cut_of_eight twenty in_turn)
  -- Shipped-plays: the first cut ends with the output, the second fills it
  pub four_read : FilesRead left_over (shipped_file cut_of_four 32 six together)
  pub four_plays : OnItsOutput cut_of_four 0x90 (shipped_board cut_of_four 32 six together)
  pub four_shipped : FourAtOnce (shipped_board cut_of_four 32 six together)
  pub eight_read : FilesRead left_over (shipped_file cut_of_eight 0 twenty in_turn)
  pub eight_plays : OnItsOutput cut_of_eight 0xFFFF5F6E (shipped_board cut_of_eight 0 twenty in_turn)
  pub eight_shipped : EightInTurn (shipped_board cut_of_eight 0 twenty in_turn)
