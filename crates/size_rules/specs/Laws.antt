-- The definitions once more, in other words. Proofs are in proofs/.
--   Sized-told     which events of a session the code goes into, and what of them it leaves
--   Size-exactly   a session file gets each refusal number, and a code, exactly when 02 says so
--   Memory-left    the sample memory, for each of these
use Rattle.std.specs.Prelude.{ℕ, suc, ◌/◌, ◌%◌, ◌≤◌, ◌<◌, ◌≡◌, ◌≢◌, ◌↔◌, List, [], ◌∷◌, length}
use Rattle.rules.specs.declared.Event.{Event}
use Rattle.rules.specs.declared.Event.TheVariants.{Write as write}
use Rattle.rules.specs.Record.{start}
use Rattle.rules.specs.Session.{after}
use Rattle.file_rules.specs.declared.Fault.{Fault}
use Rattle.file_rules.specs.Item.{File, Refused}
use Rattle.file_rules.specs.File.{session, fault_number}
use Rattle.size_rules.specs.Coded.{sized_all}
use Rattle.size_rules.specs.Smallest.{size_refusal, size_code, size_memory}
use Rattle.size_rules.specs.Theorems.{events_with, Plays, Loses}

-- ---- The session with a code

pub data WithCode (k : ℕ) : Event → Event → Type 0 where
  -- D3..0 are the code, D31..4 as they were
  put : (v w : ℕ) → w % 16 ≡ k → w / 16 ≡ v / 16 → WithCode k (write 0x0C v) (write 0x0C w)
  -- any event but a write to 0Ch is as it was: "the fitted codes kept"
  kept : (e : Event) → ((v : ℕ) → e ≢ write 0x0C v) → WithCode k e e

pub data AllWithCode (k : ℕ) : List Event → List Event → Type 0 where
  none : AllWithCode k [] []
  next : {e e' : Event} {es es' : List Event} → WithCode k e e' → AllWithCode k es es' → AllWithCode k (e ∷ es) (e' ∷ es')

abbrev pub Sized-told : Type 0
Sized-told = (k : ℕ) → k ≤ 15 → (es : List Event) → AllWithCode k es (sized_all k es)

-- ---- Refusals and codes

-- of the session file s over a memory of n values: a refusal number and a code
pub data SizeGiven (s : List ℕ) (n : ℕ) : ℕ → ℕ → Type 0 where
  -- 02: "10 to 13 first"; "each names code 0"
  bad_file : (why : Fault) (p : ℕ) → (session s).end ≡ Refused why p → SizeGiven s n (fault_number why) 0
  -- "19 exactly when none of the sixteen codes plays without loss"
  no_size : (session s).end ≡ File → ((k : ℕ) → k ≤ 15 → Loses s n k) → SizeGiven s n 19 0
  -- "the lowest code from 0 to 15 at which nothing is lost to a full buffer"
  smallest : (k : ℕ) → k ≤ 15 → (session s).end ≡ File → Plays s n k → ((j : ℕ) → j < k → Loses s n j) → SizeGiven s n 0 k

abbrev pub Size-exactly : Type 0
Size-exactly = (s m : List ℕ) (r k : ℕ) → ((size_refusal s m ≡ r) × (size_code s m ≡ k)) ↔ SizeGiven s (length m) r k

-- ---- The sample memory

-- "replaying code 0, 1 and so on .., each over what the one before left": m is lent, the codes below n are replayed, and `left` is left
pub record ReplayedInTurn (s m : List ℕ) (n : ℕ) (left : List ℕ) : Type 0 where
  -- the memory lent, and those that the replays leave
  pub memories : ℕ → List ℕ
  pub lent : memories 0 ≡ m
  -- the replay of the code k starts unpowered and goes on to its end
  pub each : (k : ℕ) → k < n → memories (suc k) ≡ (after (start (memories k)) (events_with s k)).memory
  pub last : left ≡ memories n

pub record MemoryLeft (s m : List ℕ) : Type 0 where
  -- "10 to 13 first, with the memory untouched"
  pub untouched : (why : Fault) (p : ℕ) → (session s).end ≡ Refused why p → size_memory s m ≡ m
  -- "left as by replaying code 0, 1 and so on up to the code named"
  pub named : size_refusal s m ≡ 0 → ReplayedInTurn s m (suc (size_code s m)) (size_memory s m)
  -- "(15 for refusal 19)"
  pub all : size_refusal s m ≡ 19 → ReplayedInTurn s m 16 (size_memory s m)

abbrev pub Memory-left : Type 0
Memory-left = (s m : List ℕ) → MemoryLeft s m
