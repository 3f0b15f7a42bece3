-- The refusal of a call, by what was found of its rows: whether the slice has whole ones, which is the first bad one, and whether there is
-- room for the session.
use Prim.Native.Nat.{ℕ, zero, suc, ◌+◌, ◌*◌, ◌/◌, ◌%◌, ◌≤◌}
use mathlib.Core.Path.{◌≡◌, refl, sym, ap, ◌∙◌}
use mathlib.Core.List.{List, ◌∷◌}
use native.Mathlib.Omega.{arith}
use lib.ListN.{length, take, drop}
use Rattle.std.specs.Simd.{first_chunks}
use Rattle.rules.specs.Refusals.{first_of}
use Rattle.file_rules.specs.Bytes.{file_of}
use Rattle.file_rules.specs.Writing.{sixes, rows_in, events_in, first_bad, write_refusal}
use Rattle.file_rules.proofs.WritesGiven.{decided, whole_decided, bad_decided, good_call}
use Rattle.writer.specs.declared.refusal.WriteRefusal.{WriteRefusal}
use Rattle.writer.specs.Judged.{GoodRows}
use Rattle.writer.specs.Room.{room_refusal}
use Rattle.writer.specs.Written.{refusal_number}
use Rattle.writer.proofs.Outcomes.{some_number}
use Rattle.writer.proofs.Rows.{records}

-- the library's chunks of six are the rows
chunks_sixes : (n : ℕ) (xs : List ℕ) → first_chunks 6 n xs ≡ sixes n xs
unfolding sixes
chunks_sixes zero xs = refl
chunks_sixes (suc n) xs = ap (λ (rs : List (List ℕ)). take 6 xs ∷ rs) (chunks_sixes n (drop 6 xs))

module _ (xs : List ℕ) (rs : List (List ℕ)) (front : rs ≡ first_chunks 6 (length xs / 6) xs) where
  same_rows : rs ≡ rows_in xs
  same_rows = front ∙ chunks_sixes (length xs / 6) xs

  pub file_bytes : 1 ∷ records rs ≡ file_of (events_in xs)
  unfolding file_of events_in
  file_bytes = ap (λ (rs : List (List ℕ)). 1 ∷ records rs) same_rows

  module _ (n place : ℕ) (whole : length xs % 6 ≡ 0) where
    by_rows : write_refusal xs n place ≡ decided (first_bad rs) n place (length (file_of (events_in xs)))
    by_rows =
        whole_decided xs n place whole
        ∙ ap (λ (rs : List (List ℕ)). decided (first_bad rs) n place (length (file_of (events_in xs)))) (sym same_rows)

    pub row_refused : (why : WriteRefusal) → first_bad rs ≡ refusal_number why → refusal_number why ≡ write_refusal xs n place
    row_refused why e =
        sym (by_rows ∙ bad_decided (first_bad rs) n place (length (file_of (events_in xs))) (λ z. some_number why (sym e ∙ z)) ∙ e)

    module _ {fields : ℕ} (g : GoodRows rs fields) (many : length rs ≡ length xs / 6) where
      pub by_room : room_refusal n place (1 + 3 * length rs + fields) ≡ write_refusal xs n place
      unfolding decided first_of room_refusal
      by_room =
          let long : 1 + 3 * length rs + fields ≡ length (file_of (events_in xs)) = omega (arith, g.long, ap length file_bytes) in
          ap (room_refusal n place) long
          ∙ sym (by_rows ∙ ap (λ (m : ℕ). decided m n place (length (file_of (events_in xs)))) g.good)

      pub session_fits : room_refusal n place (1 + 3 * length rs + fields) ≡ 0 → place + 1 + length (records rs) ≤ n
      session_fits z = omega (arith, (good_call xs n place (sym by_room ∙ z)).room, ap length file_bytes)
