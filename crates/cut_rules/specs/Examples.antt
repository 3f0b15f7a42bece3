-- Cuts of one small recording: the session of one, byte by byte, and each refusal with each order of two.
use Rattle.std.specs.Prelude.{ℕ, ◌≡◌, List, [], ◌∷◌, replicate}
use Rattle.cut_rules.specs.Cut.{Cut, numbers, cut_refusal, cut_end, cut_output}

-- three groups of four channels: the first digit is the group, the last the channel
abbrev pub small : List ℕ
small =
    0x1000 ∷ 0x1001 ∷ 0x1002 ∷ 0x1003
    ∷ 0x2000 ∷ 0x2001 ∷ 0x2002 ∷ 0x2003
    ∷ 0x3000 ∷ 0x3001 ∷ 0x3002 ∷ 0x3003
    ∷ []

abbrev pub of_small : ℕ → ℕ → ℕ → ℕ → Cut
of_small channels first last mask = record { recording = small; channels = channels; first = first; last = last; mask = mask }

-- channels 1 and 3 of the groups 1 and 2
abbrev pub cut_of_four : Cut
cut_of_four = of_small 4 1 2 0b1010

abbrev pub four_numbers : List ℕ
four_numbers = 0x2001 ∷ 0x2003 ∷ 0x3001 ∷ 0x3003 ∷ []

-- its session has 41 bytes; into an output of 44, from its byte 2 on
abbrev pub four_written : List ℕ
four_written =
    0xEE ∷ 0xEE
    ∷ 0x01
    ∷ 0x00 ∷ 0x06 ∷ 0x02 ∷ 0x04 ∷ 0x00 ∷ 0x00 ∷ 0x00 ∷ 0x0A
    ∷ 0x00 ∷ 0x06 ∷ 0x02 ∷ 0x18 ∷ 0x00 ∷ 0x00 ∷ 0x20 ∷ 0x01
    ∷ 0x00 ∷ 0x06 ∷ 0x02 ∷ 0x18 ∷ 0x00 ∷ 0x00 ∷ 0x20 ∷ 0x03
    ∷ 0x00 ∷ 0x06 ∷ 0x02 ∷ 0x18 ∷ 0x00 ∷ 0x00 ∷ 0x30 ∷ 0x01
    ∷ 0x00 ∷ 0x06 ∷ 0x02 ∷ 0x18 ∷ 0x00 ∷ 0x01 ∷ 0x30 ∷ 0x03
    ∷ 0xEE ∷ []

pub record CutShown : Type 0 where
  pub chosen : numbers cut_of_four ≡ four_numbers
  pub refusal : cut_refusal cut_of_four 44 2 ≡ 0
  pub end : cut_end cut_of_four 44 2 ≡ 43
  pub output : cut_output cut_of_four (replicate 44 0xEE) 2 ≡ four_written

abbrev pub Cut-shown : Type 0
Cut-shown = CutShown

-- one group, or an empty recording
abbrev pub recorded : ℕ → ℕ → Cut
recorded n channels = record { recording = replicate n 0; channels = channels; first = 0; last = 0; mask = 1 }

pub record RefusalsShown : Type 0 where
  pub no_channels : cut_refusal (of_small 0 0 0 1) 99 0 ≡ 22
  pub twenty_channels : cut_refusal (recorded 20 20) 99 0 ≡ 0
  pub twenty_one : cut_refusal (recorded 21 21) 99 0 ≡ 22
  pub part_of_a_group : cut_refusal (of_small 5 0 0 1) 99 0 ≡ 22
  pub none_recorded : cut_refusal (recorded 0 1) 99 0 ≡ 23
  pub none_without_channels : cut_refusal (recorded 0 0) 99 0 ≡ 22
  pub empty_choice : cut_refusal (of_small 4 0 2 0) 99 0 ≡ 23
  pub outside : cut_refusal (of_small 4 0 2 0b10001) 99 0 ≡ 23
  pub reversed : cut_refusal (of_small 4 2 1 1) 99 0 ≡ 23
  pub beyond : cut_refusal (of_small 4 0 3 1) 99 0 ≡ 23
  pub groups_before_choice : cut_refusal (of_small 5 2 1 0) 99 0 ≡ 22
  pub groups_before_place : cut_refusal (of_small 5 0 0 1) 4 5 ≡ 22
  pub choice_before_place : cut_refusal (of_small 4 2 1 1) 4 5 ≡ 23
  pub choice_before_room : cut_refusal (of_small 4 0 2 0) 4 4 ≡ 23
  pub past : cut_refusal cut_of_four 40 41 ≡ 20
  pub at_the_end : cut_refusal cut_of_four 41 41 ≡ 21
  pub one_short : cut_refusal cut_of_four 41 1 ≡ 21
  pub done : cut_refusal cut_of_four 41 0 ≡ 0

abbrev pub Refusals-shown : Type 0
Refusals-shown = RefusalsShown
