-- What a client who orders an extract may rely on: channel k of a group plays on output k.
--   Cut-stored      the cut's events, right after an accepted power-up, store the chosen numbers in recording order
--   Channel-plays   from there, tick by tick: each chosen channel's numbers on the output of its own number, and all others hold
--   Shipped-plays   the same of the bytes that are shipped, read and run; all events are accepted, and nothing is lost
-- They hold for every fitted code whose depth holds the numbers: a deeper board is an instance, and needs no demand 3.
use Rattle.std.specs.Prelude.{ℕ, suc, ◌+◌, ◌*◌, ◌≤◌, ◌<◌, ◌^◌, ◌≡◌, ◌≢◌, Bool, true, false, List, [], ◌∷◌, ◌++◌, length, get_or, replicate}
use Rattle.std.proofs.Math.Seq.{slice}
use Rattle.rules.specs.declared.Settings.{Settings}
use Rattle.rules.specs.declared.Event.{Event}
use Rattle.rules.specs.declared.Event.TheVariants.{PowerUp as power_up, Write as write, Signal as signal}
use Rattle.rules.specs.declared.Signal.TheVariants.{Tick as tick}
use Rattle.rules.specs.Bits.{bit}
use Rattle.rules.specs.Record.{State, depth_of, channels, stored, start}
use Rattle.rules.specs.Refusals.{refusal}
use Rattle.rules.specs.Step.{Outcome, step}
use Rattle.rules.specs.Session.{outcomes, after}
use Rattle.laws.specs.Moved.{Coding, level_at}
use Rattle.file_rules.specs.Item.{File}
use Rattle.file_rules.specs.File.{session}
use Rattle.file_rules.specs.Bytes.{bytes_of, records_of}
use Rattle.cut_rules.specs.Cut.{Cut, sample, chosen, groups, numbers, eof_on_last, events, cut_refusal, cut_end, cut_output}
use Rattle.cut_rules.specs.Laws.{Grouped, GoodChoice, Sixteen}

-- ---- The board and the order

-- 02: "right after an accepted power-up, with the channels fitted and depth enough"
pub record Equipped (q : Cut) (s : State) (x : Settings) : Type 0 where
  pub accepted : refusal s (power_up x) ≡ 0
  pub outputs : (k : ℕ) → bit k q.mask ≡ true → k < channels x.kit
  pub room : length (numbers q) ≤ depth_of x.fitted

-- an order that is not refused, of a recording of 16-bit numbers
pub record Ordered (q : Cut) : Type 0 where
  pub count : ℕ
  pub grouped : Grouped q count
  pub choice : GoodChoice q count
  pub sixteen : Sixteen q.recording

abbrev pub powered : State → Settings → State
powered s x = (step s (power_up x)).state

-- ---- What is stored

-- every event is accepted, and none loses a value
pub data Fine : List Outcome → Type 0 where
  none : Fine []
  next : {o : Outcome} {os : List Outcome} → o.answer.refusal ≡ 0 → o.answer.fate ≤ 1 → Fine os → Fine (o ∷ os)

pub record StoredInOrder (q : Cut) (s : State) : Type 0 where
  pub fine : Fine (outcomes s (events q))
  pub values : stored (after s (events q)) ≡ eof_on_last (numbers q)

-- 02: "Its events, right after an accepted power-up, with the channels fitted and depth enough, store exactly the chosen numbers in
-- recording order."
abbrev pub Cut-stored : Type 0
Cut-stored = (q : Cut) (s : State) (x : Settings) → Ordered q → Equipped q s x → StoredInOrder q (powered s x)

-- ---- The play

-- one write to 00h and one to 0Ch: no bursts, no calibration, no initialise; own clock, enabled, not circular, not emptied. All other
-- bits are free: D7 of v is the output mode, D4 of v the coding.
pub record Playable (v w : ℕ) : Type 0 where
  pub no_bursts : bit 0 v ≡ false
  pub no_calibration : bit 13 v ≡ false
  pub no_initialise : bit 15 v ≡ false
  pub generator : bit 4 w ≡ false
  pub enabled : bit 5 w ≡ true
  pub uncircled : bit 8 w ≡ false
  pub unemptied : bit 11 w ≡ false

-- in either order
pub data EitherOrder (v w : ℕ) : List Event → Type 0 where
  control_first : EitherOrder v w (write 0x00 v ∷ write 0x0C w ∷ [])
  buffer_first : EitherOrder v w (write 0x0C w ∷ write 0x00 v ∷ [])

abbrev pub many_ticks : ℕ → List Event
many_ticks n = replicate n (signal tick)

-- Simultaneous mode; `at n` is the board after n ticks. The tick after the j-th puts the number of channel k of the j-th group cut, counted
-- from 0, on output k, for every chosen k, and leaves every other output.
pub record GroupByGroup (q : Cut) (binary : Bool) (at : ℕ → State) : Type 0 where
  pub plays : (j k : ℕ) → j < groups q → bit k q.mask ≡ true → Coding binary (sample q (q.first + j) k) (level_at (at (suc j)) k)
  pub holds : (j k : ℕ) → j < groups q → bit k q.mask ≡ false → level_at (at (suc j)) k ≡ level_at (at j) k
  pub over : stored (at (groups q)) ≡ []

-- Sequential mode, with c chosen channels: tick j · c + i + 1 does so for the i-th chosen channel alone.
pub record InTurn (q : Cut) (binary : Bool) (at : ℕ → State) (c : ℕ) : Type 0 where
  pub plays : (j i : ℕ) → j < groups q → i < c
      → Coding binary (sample q (q.first + j) (get_or (chosen q) i 0)) (level_at (at (suc (j * c + i))) (get_or (chosen q) i 0))
  pub holds : (j i k : ℕ) → j < groups q → i < c → k ≢ get_or (chosen q) i 0 → level_at (at (suc (j * c + i))) k ≡ level_at (at (j * c + i)) k
  pub over : stored (at (groups q * c)) ≡ []

-- Channel k of a group plays on output k.
pub record OnItsOutput (q : Cut) (v : ℕ) (at : ℕ → State) : Type 0 where
  pub simultaneous : bit 7 v ≡ true → GroupByGroup q (bit 4 v) at
  pub sequential : bit 7 v ≡ false → InTurn q (bit 4 v) at (length (chosen q))

abbrev pub Channel-plays : Type 0
Channel-plays =
    (q : Cut) (s : State) (x : Settings) (v w : ℕ) (two : List Event)
    → Ordered q
    → Equipped q s x
    → Playable v w
    → EitherOrder v w two
    → OnItsOutput q v (λ n. after (powered s x) (events q ++ (two ++ many_ticks n)))

-- ---- From bytes

-- the file: 01, the record of the power-up, the cutter's bytes from its second on, those of the two writes and of n ticks
abbrev pub shipped : Settings → List ℕ → List Event → ℕ → List ℕ
shipped x cut two n = 1 ∷ bytes_of (power_up x) ++ (cut ++ records_of (two ++ many_ticks n))

-- the output of a call that is not refused, from the byte after the version byte to where the cutter stopped
abbrev pub cut_bytes : Cut → List ℕ → ℕ → List ℕ
cut_bytes q out place = slice (suc place) (cut_end q (length out) place) (cut_output q out place)

-- of a file with n ticks, read and run over the memory m
pub record PlaysRead (q : Cut) (v : ℕ) (m : List ℕ) (file : ℕ → List ℕ) : Type 0 where
  pub whole : (n : ℕ) → (session (file n)).end ≡ File
  pub fine : (n : ℕ) → Fine (outcomes (start m) (session (file n)).events)
  pub plays : OnItsOutput q v (λ n. after (start m) (session (file n)).events)

-- Over every memory that is at least as long as the depth: a shorter one does not accept the power-up.
abbrev pub Shipped-plays : Type 0
Shipped-plays =
    (q : Cut) (x : Settings) (v w : ℕ) (two : List Event) (m out : List ℕ) (place : ℕ)
    → Sixteen q.recording
    → cut_refusal q (length out) place ≡ 0
    → Equipped q (start m) x
    → Playable v w
    → v < 2 ^ 32
    → w < 2 ^ 32
    → EitherOrder v w two
    → PlaysRead q v m (shipped x (cut_bytes q out place) two)
