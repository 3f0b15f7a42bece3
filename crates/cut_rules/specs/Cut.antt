-- A cut of a recording: the numbers that an order chooses, and the session that loads them (02, request 2026-07).
--   sample q j k      the number of channel k of group j
--   chosen q          the chosen channels, ascending
--   numbers q         the chosen numbers in recording order
--   events q          the session that loads them; its bytes are `file_of (events q)`
--   cut_refusal q n p  what is wrong with a call, on an output of n bytes from the place p on: 22, 23, 20, 21, or 0
--   cut_end q n p      the place where the cutter stopped
--   cut_output q o p   the output that it leaves
use Rattle.std.specs.Prelude.{ℕ, zero, suc, ◌+◌, ◌*◌, ◌-◌, ◌/◌, ◌%◌, ◌^◌, Bool, not, cond, List, [], ◌∷◌, ◌++◌, map, leb, ltb, eqb, length, get_or}
use Rattle.std.proofs.lemmas.List.Edits.{sets}
use Rattle.rules.specs.declared.Event.{Event}
use Rattle.rules.specs.declared.Event.TheVariants.{Write as write}
use Rattle.rules.specs.Bits.{active_from, all}
use Rattle.rules.specs.Refusals.{◌when◌, first_of}
use Rattle.file_rules.specs.Bytes.{file_of}

-- 02: "a recording as a lent slice of 16-bit numbers, group after group, with the number of channels in a group, cut groups a to b (from
-- 0, both taken) and a chosen subset of channels". Reading: the subset is a mask, bit k is channel k (DECISIONS 119).
pub record Cut : Type 0 where
  pub recording : List ℕ
  pub channels : ℕ
  pub first : ℕ
  pub last : ℕ
  pub mask : ℕ

-- ---- The end-of-frame mark

-- 02: "EOF on the very last and on no other"; it is bit 16
unfoldable pub eof_on_last : List ℕ → List ℕ
eof_on_last [] = []
eof_on_last (v ∷ []) = (v + 0x10000) ∷ []
eof_on_last (v ∷ w ∷ vs) = v ∷ eof_on_last (w ∷ vs)

-- ---- The chosen numbers

-- 02: "group after group, with the number of channels in a group"
unfoldable pub sample : Cut → ℕ → ℕ → ℕ
sample q j k = get_or q.recording (j * q.channels + k) 0

-- "in ascending channels"
unfoldable pub chosen : Cut → List ℕ
chosen q = active_from 0 q.mask

-- 02: "group after group"; those of the channels ks, of n groups from the group j on
unfoldable pub numbers_from : Cut → List ℕ → ℕ → ℕ → List ℕ
numbers_from q ks j zero = []
numbers_from q ks j (suc n) = map (sample q j) ks ++ numbers_from q ks (suc j) n

-- "groups a to b (.. both taken)"
unfoldable pub groups : Cut → ℕ
groups q = suc q.last - q.first

unfoldable pub numbers : Cut → List ℕ
numbers q = numbers_from q (chosen q) q.first (groups q)

-- ---- The session

-- 02: "one write to 04h, then one to 18h for each value"
unfoldable pub events : Cut → List Event
events q = write 0x04 q.mask ∷ map (write 0x18) (eof_on_last (numbers q))

-- ---- Refusals

-- 02: "22 channels in a group not 1 to 20, or length no whole number of groups"
unfoldable pub is_grouped : Cut → Bool
is_grouped q = all (leb 1 q.channels ∷ leb q.channels 20 ∷ eqb (length q.recording % q.channels) 0 ∷ [])

-- "23 empty choice, a channel outside the group, or groups out of range or reversed"
unfoldable pub is_choice : Cut → Bool
is_choice q =
    all
    (not (eqb q.mask 0)
    ∷ ltb q.mask (2 ^ q.channels)
    ∷ leb q.first q.last
    ∷ ltb q.last (length q.recording / q.channels)
    ∷ [])

-- 02: "Refusals, in order: 22 ..; 23 ..; then 20 and 21": those of the writer, "20 a place past the output's end, 21 when the whole
-- session doesn't fit"
unfoldable pub cut_refusal : Cut → ℕ → ℕ → ℕ
cut_refusal q n place =
    first_of
    (22 when not (is_grouped q)
    ∷ 23 when not (is_choice q)
    ∷ 20 when ltb n place
    ∷ 21 when ltb n (place + length (file_of (events q)))
    ∷ [])

-- ---- What comes of a call

-- 02: "write, as 2026-01 does", into a lent output, from a place the caller names; a refusal "answers place 0 and writes no byte"
unfoldable pub cut_end : Cut → ℕ → ℕ → ℕ
cut_end q n place = cond (eqb (cut_refusal q n place) 0) (place + length (file_of (events q))) 0

unfoldable pub cut_output : Cut → List ℕ → ℕ → List ℕ
cut_output q out place = cond (eqb (cut_refusal q (length out) place) 0) (sets out place (file_of (events q))) out
