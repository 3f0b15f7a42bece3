-- What the two loops over the rows keep: the one that judges (Judging), and the one that writes (Putting).
use Prim.Native.Nat.{ℕ, ◌+◌, ◌*◌, ◌≤◌, ◌<◌}
use mathlib.Core.Path.{◌≡◌, refl, sym, ap, ◌∙◌}
use mathlib.Core.Logic.{◌≢◌}
use mathlib.Core.Bool.{Bool, true, false}
use mathlib.Core.List.{List, [], ◌∷◌, ◌++◌, map}
use native.Mathlib.Numerals.{add-one}
use native.Mathlib.Omega.{arith}
use borrow.Author.Tests.{eqb-true, eqb-false}
use lib.Dec.{eqb}
use lib.ListN.{length, get_or, drop, length-append}
use lib.Seq.{drop-cons, drop-length}
use Rattle.file_rules.specs.Bytes.{bytes_of, records_of}
use Rattle.file_rules.specs.Row.{event_of_row}
use Rattle.file_rules.specs.Pieces.{Piece}
use Rattle.file_rules.specs.Writing.{row_refusal, first_bad}
use Rattle.file_rules.proofs.Joined.{then, renamed, piece_length}
use Rattle.file_rules.proofs.WritesGiven.{first_good, first_refused}
use Rattle.writer.specs.Judged.{GoodRow, GoodRows}
use Rattle.writer.proofs.NoBytes.{none_left}

-- the records of rows
abbrev pub records : List (List ℕ) → List ℕ
records rs = records_of (map event_of_row rs)

-- the rows before the i-th are good, and their fields have so many bytes
pub record Judging (rows : List (List ℕ)) (i fields : ℕ) : Type 0 where
  pub first : first_bad rows ≡ first_bad (drop i rows)
  pub small : fields ≤ 6 * i
  pub long : length (records rows) ≡ 3 * i + fields + length (records (drop i rows))

-- of the records of all rows, those of the rows before the i-th are written from to₀ on; the others are good, and there is room for them
pub record Putting (rows : List (List ℕ)) (out₀ : List ℕ) (to₀ : ℕ) (out : List ℕ) (to i : ℕ) : Type 0 where
  pub good : first_bad (drop i rows) ≡ 0
  pub room : to + length (records (drop i rows)) ≤ length out
  pub whole : (o : List ℕ) (q : ℕ) → Piece out to (records (drop i rows)) o q → Piece out₀ to₀ (records rows) o q

pub judging_start : (rows : List (List ℕ)) → Judging rows 0 0
judging_start rows = record { first = refl; small = omega arith; long = omega arith }

module _ (rows : List (List ℕ)) (i : ℕ) (h : i < length rows) (d : List ℕ) where
  -- the row that comes
  abbrev row : List ℕ
  row = get_or rows i d

  next : drop i rows ≡ row ∷ drop (i + 1) rows
  next = rw (add-one) (drop-cons rows i d h)

  next_bytes : bytes_of (event_of_row row) ++ records (drop (i + 1) rows) ≡ records (drop i rows)
  unfolding records_of
  next_bytes = sym (ap records next)

  next_long : length (records (drop i rows)) ≡ length (bytes_of (event_of_row row)) + length (records (drop (i + 1) rows))
  next_long = sym (ap length next_bytes) ∙ length-append (bytes_of (event_of_row row)) (records (drop (i + 1) rows))

  passed_over : row_refusal row ≡ 0 → first_bad (drop i rows) ≡ first_bad (drop (i + 1) rows)
  passed_over z = ap first_bad next ∙ first_good row (drop (i + 1) rows) z

  decides : row_refusal row ≢ 0 → first_bad (drop i rows) ≡ row_refusal row
  decides n = ap first_bad next ∙ first_refused row (drop (i + 1) rows) n

  pub judging_next : {fields n : ℕ} → Judging rows i fields → GoodRow row n → Judging rows (i + 1) (fields + n)
  judging_next j r =
      record {
        first = j.first ∙ passed_over r.good;
        small = omega (arith, j.small, r.small);
        long = omega (arith, j.long, r.long, next_long);
      }

  pub judging_bad : {fields m : ℕ} → Judging rows i fields → row_refusal row ≡ m → m ≢ 0 → first_bad rows ≡ m
  judging_bad j e n = j.first ∙ decides (λ z. n (sym e ∙ z)) ∙ e

  -- where none is bad this one is not
  module _ {out₀ : List ℕ} {to₀ : ℕ} {out : List ℕ} {to : ℕ} (s : Putting rows out₀ to₀ out to i) where
    pub row_good : row_refusal row ≡ 0
    row_good = go (eqb (row_refusal row) 0) refl
      where
        go : (t : Bool) → eqb (row_refusal row) 0 ≡ t → row_refusal row ≡ 0
        go true e = eqb-true _ 0 e
        go false e = sym (decides (eqb-false _ 0 e)) ∙ s.good

    pub row_fits : to + length (bytes_of (event_of_row row)) ≤ length out
    row_fits = omega (arith, s.room, next_long)

    pub putting_next : {out' : List ℕ} {to' : ℕ} → Piece out to (bytes_of (event_of_row row)) out' to' → Putting rows out₀ to₀ out' to' (i + 1)
    putting_next p =
        record {
          good = sym (passed_over row_good) ∙ s.good;
          room = omega (arith, s.room, p.place, piece_length p, next_long);
          whole = λ o q r. s.whole o q (renamed next_bytes (then p r));
        }

pub judging_over : {rows : List (List ℕ)} {i fields : ℕ} → Judging rows i fields → i ≡ length rows → GoodRows rows fields
unfolding first_bad records_of
judging_over {rows} {i} j e =
    let none : drop i rows ≡ [] = ap (λ (k : ℕ). drop k rows) e ∙ drop-length rows in
    record {
      good = j.first ∙ ap first_bad none;
      long = omega (arith, j.long, e, ap (λ (rs : List (List ℕ)). length (records rs)) none);
    }

-- behind the last row the session is whole
pub putting_over : {rows : List (List ℕ)} {out₀ : List ℕ} {to₀ : ℕ} {out : List ℕ} {to i : ℕ} → Putting rows out₀ to₀ out to i
    → i ≡ length rows
    → Piece out₀ to₀ (records rows) out to
unfolding records_of
putting_over {rows} {out = out} {to = to} {i = i} s e =
    s.whole out to (none_left (ap records (ap (λ (k : ℕ). drop k rows) e ∙ drop-length rows)))
