-- An extract that names its size: the two writes come before the loads, as for a smaller buffer they must.
--   Channel-plays-at-size   Channel-plays of specs/Plays, with the two writes between power-up and cut
--   Shipped-plays-at-size   the same of the bytes that are shipped, read and run; all events are accepted, and nothing is lost
use Rattle.std.specs.Prelude.{ℕ, ◌%◌, ◌≤◌, ◌<◌, ◌^◌, ◌≡◌, true, List, ◌∷◌, ◌++◌, length}
use Rattle.rules.specs.declared.Settings.{Settings}
use Rattle.rules.specs.declared.Event.{Event}
use Rattle.rules.specs.declared.Event.TheVariants.{PowerUp as power_up}
use Rattle.rules.specs.Bits.{bit}
use Rattle.rules.specs.Record.{State, active_size, channels, start}
use Rattle.rules.specs.Refusals.{refusal}
use Rattle.rules.specs.Session.{after}
use Rattle.file_rules.specs.Bytes.{bytes_of, records_of}
use Rattle.cut_rules.specs.Cut.{Cut, numbers, events, cut_refusal}
use Rattle.cut_rules.specs.Laws.{Sixteen}
use Rattle.cut_rules.specs.Plays.{Ordered, powered, Playable, EitherOrder, many_ticks, OnItsOutput, cut_bytes, PlaysRead}

-- 02: "right after an accepted power-up, with the channels fitted and depth enough"; the two writes come first here, so that the loads
-- find the size that w names: its code is D3..0 of w, and no code gives more than is fitted
pub record EquippedAtSize (q : Cut) (s : State) (x : Settings) (w : ℕ) : Type 0 where
  pub accepted : refusal s (power_up x) ≡ 0
  pub outputs : (k : ℕ) → bit k q.mask ≡ true → k < channels x.kit
  pub room : length (numbers q) ≤ active_size (record { fitted = x.fitted; code = w % 16 })

abbrev pub Channel-plays-at-size : Type 0
Channel-plays-at-size =
    (q : Cut) (s : State) (x : Settings) (v w : ℕ) (two : List Event)
    → Ordered q
    → EquippedAtSize q s x w
    → Playable v w
    → EitherOrder v w two
    → OnItsOutput q v (λ n. after (powered s x) (two ++ (events q ++ many_ticks n)))

-- the file: 01, the record of the power-up, those of the two writes, the cutter's bytes from its second on, those of n ticks
abbrev pub shipped_at_size : Settings → List Event → List ℕ → ℕ → List ℕ
shipped_at_size x two cut n = 1 ∷ bytes_of (power_up x) ++ (records_of two ++ (cut ++ records_of (many_ticks n)))

abbrev pub Shipped-plays-at-size : Type 0
Shipped-plays-at-size =
    (q : Cut) (x : Settings) (v w : ℕ) (two : List Event) (m out : List ℕ) (place : ℕ)
    → Sixteen q.recording
    → cut_refusal q (length out) place ≡ 0
    → EquippedAtSize q (start m) x w
    → Playable v w
    → v < 2 ^ 32
    → w < 2 ^ 32
    → EitherOrder v w two
    → PlaysRead q v m (shipped_at_size x two (cut_bytes q out place))
