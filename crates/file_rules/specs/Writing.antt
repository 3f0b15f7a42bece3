-- A session file written: from a slice of rows into an output, from a place on (02, request 2026-01).
--   rows_in xs             the rows of a slice, six numbers each
--   events_in xs           the events of these rows
--   rows_of es             the slice of the rows of these events
--   row_refusal r          what is wrong with a row: 13, 30, or 0
--   write_refusal xs n p   what is wrong with a call, on an output of n bytes from the place p on: 32, 13, 30, 20, 21, or 0
--   end_place xs n p       the place where the writer stopped
--   output_after xs out p  the output that it leaves
use Rattle.std.specs.Prelude.{ℕ, zero, suc, ◌+◌, ◌/◌, ◌%◌, ◌^◌, Bool, true, not, ◌&&◌, cond, List, [], ◌∷◌, ◌++◌, map, ltb, eqb, length, take, drop}
use Rattle.std.proofs.lemmas.List.Edits.{sets}
use Rattle.rules.specs.declared.Event.{Event}
use Rattle.rules.specs.Refusals.{◌when◌, first_of}
use Rattle.file_rules.specs.File.{length_of}
use Rattle.file_rules.specs.Row.{row_of, field, event_of_row}
use Rattle.file_rules.specs.Bytes.{file_of}

-- ---- Rows

-- 02: "a lent slice of events, six numbers each (kind, then fields)": so many of them
unfoldable pub sixes : ℕ → List ℕ → List (List ℕ)
sixes zero xs = []
sixes (suc n) xs = take 6 xs ∷ sixes n (drop 6 xs)

abbrev pub rows_in : List ℕ → List (List ℕ)
rows_in xs = sixes (length xs / 6) xs

unfoldable pub events_in : List ℕ → List Event
events_in xs = map event_of_row (rows_in xs)

unfoldable pub rows_of : List Event → List ℕ
rows_of [] = []
rows_of (e ∷ es) = row_of e ++ rows_of es

-- ---- Refusals

-- how many bytes each field of a kind has, 0 where the kind has none; 01: "1 power-up (d, range, filter, kit, firmware in two bytes) 7;
-- 2 write (offset, value in four) 6; 3 read (offset) 2; 4 tick, .. 9 settled, 1 each"
unfoldable pub widths : ℕ → List ℕ
widths kind =
    cond (eqb kind 1) (1 ∷ 1 ∷ 1 ∷ 1 ∷ 2 ∷ [])
    (cond (eqb kind 2) (1 ∷ 4 ∷ 0 ∷ 0 ∷ 0 ∷ [])
    (cond (eqb kind 3) (1 ∷ 0 ∷ 0 ∷ 0 ∷ 0 ∷ []) (0 ∷ 0 ∷ 0 ∷ 0 ∷ 0 ∷ [])))

-- each field is below 256 to the number of its bytes; of a field that has none that leaves 0 alone
unfoldable pub fit_widths : List ℕ → List ℕ → Bool
fit_widths [] ws = true
fit_widths (x ∷ xs) [] = true
fit_widths (x ∷ xs) (w ∷ ws) = ltb x (256 ^ w) && fit_widths xs ws

-- 02: "13 an unknown kind, 30 a field too large for its bytes or not 0 where the kind has none"; "13 before 30"
unfoldable pub row_refusal : List ℕ → ℕ
row_refusal r = first_of (13 when eqb (length_of (field r 0)) 0 ∷ 30 when not (fit_widths (drop 1 r) (widths (field r 0))) ∷ [])

-- 02: "the first bad event decides"
unfoldable pub first_bad : List (List ℕ) → ℕ
first_bad [] = 0
first_bad (r ∷ rs) = cond (eqb (row_refusal r) 0) (first_bad rs) (row_refusal r)

-- 02: "32 a slice not of whole events, first; 13 .., 30 .., 20 a place past the output's end, 21 when the whole session doesn't fit; the
-- first bad event decides, 13 before 30, then 20, then 21"
unfoldable pub write_refusal : List ℕ → ℕ → ℕ → ℕ
write_refusal xs n place =
    first_of
    (32 when not (eqb (length xs % 6) 0)
    ∷ first_bad (rows_in xs) when not (eqb (first_bad (rows_in xs)) 0)
    ∷ 20 when ltb n place
    ∷ 21 when ltb n (place + length (file_of (events_in xs)))
    ∷ [])

-- ---- What comes of a call

-- 02: "it writes a version 1 session .. and says where it stopped"; a refusal "answers place 0"
unfoldable pub end_place : List ℕ → ℕ → ℕ → ℕ
end_place xs n place = cond (eqb (write_refusal xs n place) 0) (place + length (file_of (events_in xs))) 0

-- 02: ".. into a lent output, from a place the caller names"; "Bytes outside what it writes don't change"; a refusal "writes no byte"
unfoldable pub output_after : List ℕ → List ℕ → ℕ → List ℕ
output_after xs out place = cond (eqb (write_refusal xs (length out) place) 0) (sets out place (file_of (events_in xs))) out
