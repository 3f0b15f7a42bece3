-- A cut once more, in other words than the definitions. Proofs are in proofs/.
--   Numbers-told   which number of the recording stands at which place of the chosen ones
--   Eof-told       the end-of-frame mark is on the last, and on no other
--   Session-told   the events of the session, and its length in bytes
--   Cut-exactly    a call is refused by a number, or not refused, exactly when 02 says so, its order too
--   Cut-refused    a refused call answers place 0 and writes no byte
--   Cut-read       what was written, read from its place to where the cutter stopped, gives the events and ends with the file
use Rattle.std.specs.Prelude.{ℕ, suc, ◌+◌, ◌*◌, ◌≤◌, ◌<◌, ◌≡◌, ◌≢◌, ◌⊎◌, ◌↔◌, true, List, length, get_or}
use Rattle.std.specs.Int.Count.{ones}
use Rattle.rules.specs.declared.Event.TheVariants.{Read as read, Write as write}
use Rattle.rules.specs.Bits.{bit}
use Rattle.laws.specs.Moved.{ActiveAscending}
use Rattle.file_rules.specs.Bytes.{file_of}
use Rattle.file_rules.specs.WritingLaws.{Reread}
use Rattle.cut_rules.specs.Cut.{Cut, chosen, groups, numbers, eof_on_last, events, cut_refusal, cut_end, cut_output}

-- ---- What is taken

-- 02: "channels in a group .. 1 to 20", length a whole number of groups: n of them
pub record Grouped (q : Cut) (n : ℕ) : Type 0 where
  pub some : 1 ≤ q.channels
  pub most : q.channels ≤ 20
  pub whole : length q.recording ≡ n * q.channels

-- no "empty choice", no "channel outside the group", no "groups out of range or reversed"
pub record GoodChoice (q : Cut) (n : ℕ) : Type 0 where
  pub some : q.mask ≢ 0
  pub inside : (k : ℕ) → bit k q.mask ≡ true → k < q.channels
  pub forward : q.first ≤ q.last
  pub within : q.last < n

-- ---- The chosen numbers

-- With so many channels chosen, the i-th chosen channel of the j-th group cut stands at j times that many, and i more.
pub record NumbersTold (q : Cut) : Type 0 where
  pub channels : ActiveAscending q.mask (chosen q)
  pub groups_cut : groups q + q.first ≡ suc q.last
  pub long : length (numbers q) ≡ groups q * ones q.mask
  pub there : (j i : ℕ) → j < groups q → i < ones q.mask
      → get_or (numbers q) (j * ones q.mask + i) 0 ≡ get_or q.recording ((q.first + j) * q.channels + get_or (chosen q) i 0) 0

abbrev pub Numbers-told : Type 0
Numbers-told = (q : Cut) (n : ℕ) → Grouped q n → GoodChoice q n → NumbersTold q

-- 02: "EOF on the very last and on no other"
pub record EofTold (vs : List ℕ) : Type 0 where
  pub long : length (eof_on_last vs) ≡ length vs
  pub last : (i : ℕ) → suc i ≡ length vs → get_or (eof_on_last vs) i 0 ≡ get_or vs i 0 + 0x10000
  pub others : (i : ℕ) → suc i < length vs → get_or (eof_on_last vs) i 0 ≡ get_or vs i 0

abbrev pub Eof-told : Type 0
Eof-told = (vs : List ℕ) → EofTold vs

-- 02: "one write to 04h, then one to 18h for each value"
pub record SessionTold (q : Cut) : Type 0 where
  pub many : length (events q) ≡ 1 + length (numbers q)
  pub mask : get_or (events q) 0 (read 0) ≡ write 0x04 q.mask
  pub load : (i : ℕ) → i < length (numbers q) → get_or (events q) (suc i) (read 0) ≡ write 0x18 (get_or (eof_on_last (numbers q)) i 0)
  pub bytes : length (file_of (events q)) ≡ 1 + 8 * (1 + length (numbers q))

abbrev pub Session-told : Type 0
Session-told = (q : Cut) → SessionTold q

-- ---- Refusals

pub data CutGiven (q : Cut) (n place : ℕ) : ℕ → Type 0 where
  -- 02: "22 channels in a group not 1 to 20, or length no whole number of groups"
  bad_group : (q.channels ≡ 0) ⊎ (20 < q.channels) → CutGiven q n place 22
  part_group : 1 ≤ q.channels → ((k : ℕ) → length q.recording ≢ k * q.channels) → CutGiven q n place 22
  -- "23 empty choice, a channel outside the group, or groups out of range or reversed"
  empty : (g : ℕ) → Grouped q g → q.mask ≡ 0 → CutGiven q n place 23
  outside : (g : ℕ) → Grouped q g → (k : ℕ) → q.channels ≤ k → bit k q.mask ≡ true → CutGiven q n place 23
  reversed : (g : ℕ) → Grouped q g → q.last < q.first → CutGiven q n place 23
  beyond : (g : ℕ) → Grouped q g → g ≤ q.last → CutGiven q n place 23
  -- "then 20 and 21"
  past_end : (g : ℕ) → Grouped q g → GoodChoice q g → n < place → CutGiven q n place 20
  too_long : (g : ℕ) → Grouped q g → GoodChoice q g → place ≤ n → n < place + (1 + 8 * (1 + groups q * ones q.mask)) → CutGiven q n place 21
  done : (g : ℕ) → Grouped q g → GoodChoice q g → place + (1 + 8 * (1 + groups q * ones q.mask)) ≤ n → CutGiven q n place 0

abbrev pub Cut-exactly : Type 0
Cut-exactly = (q : Cut) (n place m : ℕ) → (cut_refusal q n place ≡ m) ↔ CutGiven q n place m

-- 02, of the writer: "each answers place 0 and writes no byte"
abbrev pub Cut-refused : Type 0
Cut-refused =
    (q : Cut) (out : List ℕ) (place : ℕ)
    → cut_refusal q (length out) place ≢ 0
    → (cut_end q (length out) place ≡ 0) × (cut_output q out place ≡ out)

-- ---- Written and read

-- "16-bit numbers"
abbrev pub Sixteen : List ℕ → Type 0
Sixteen xs = (i : ℕ) → get_or xs i 0 < 0x10000

abbrev pub Cut-read : Type 0
Cut-read =
    (q : Cut) (out : List ℕ) (place : ℕ)
    → Sixteen q.recording
    → cut_refusal q (length out) place ≡ 0
    → Reread (events q) out place (cut_end q (length out) place) (cut_output q out place)
