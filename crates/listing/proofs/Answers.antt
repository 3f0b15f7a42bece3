-- The two answers of the listing: the output is too short, or the text stands in it.
use Prim.Native.Nat.{ℕ, ◌+◌, ◌*◌, ◌≤◌, ◌<◌}
use mathlib.Core.Path.{◌≡◌, sym, ap, subst, ◌∙◌}
use mathlib.Core.List.{List}
use native.Mathlib.Nat.{zero-add}
use native.Mathlib.Omega.{arith}
use borrow.Author.Tests.{lt-ltb, le-ltb}
use lib.ListN.{length}
use Rattle.rules.specs.Record.{start}
use Rattle.rules.specs.Session.{after}
use Rattle.rules.proofs.Choice.{cond_true, cond_false}
use Rattle.std.specs.Prelude.{Result, Ok, Err}
use Rattle.listing.specs.declared.ShortOutput.{ShortOutput}
use Rattle.file_rules.specs.File.{session}
use Rattle.listing_rules.specs.Text.{too_long}
use Rattle.file_rules.specs.Pieces.{Piece}
use Rattle.listing_rules.specs.Listing.{longest, listing, text, memory_after, room}
use Rattle.listing.specs.Promises.{Lists}

abbrev short : ℕ → Result ℕ ShortOutput
short n = Err (record { needed = n })

module _ (s m out : List ℕ) where
  pub too_short : (n : ℕ) → n ≡ room (length s) → length out < n → Lists s m out (Err (record { needed = n })) m out
  too_short n e h =
      let l = lt-ltb (length out) (room (length s)) (omega (arith, e)) in
      record { answer = ap short e ∙ sym (cond_true _ _ _ l); memory = sym (cond_true _ _ _ l); output = sym (cond_true _ _ _ l) }

  written : (r : ℕ) (m' out' : List ℕ) → room (length s) ≤ length out → m' ≡ memory_after s m → Piece out 0 (text s m) out' r → Lists s m out (Ok r) m' out'
  written r m' out' h e w =
      let l = le-ltb _ _ h in
      record {
        answer = ap Ok (w.place ∙ zero-add (length (text s m))) ∙ sym (cond_false _ _ _ l);
        memory = e ∙ sym (cond_false _ _ _ l);
        output = w.text ∙ sym (cond_false _ _ _ l);
      }

  -- ---- A file that is too long

  pub room_long : longest < length s → 9 ≡ room (length s)
  unfolding room
  room_long h = sym (cond_true _ _ _ (lt-ltb _ _ h))

  pub long_written : (r : ℕ) (out' : List ℕ) → longest < length s → 9 ≤ length out → Piece out 0 too_long out' r → Lists s m out (Ok r) m out'
  unfolding text memory_after
  long_written r out' h l w =
      let t = lt-ltb _ _ h in
      written r m out' (omega (arith, room_long h)) (sym (cond_true _ _ _ t)) (subst (λ (x : List ℕ). Piece out 0 x out' r) (sym (cond_true _ _ _ t)) w)

  -- ---- Any other

  pub room_file : length s ≤ longest → 160 + 22 * length s ≡ room (length s)
  unfolding room
  room_file h = sym (cond_false _ _ _ (le-ltb _ _ h))

  pub file_written : (r : ℕ) (m' out' : List ℕ) → length s ≤ longest → 160 + 22 * length s ≤ length out
      → Piece out 0 (listing s m) out' r × (m' ≡ (after (start m) (session s).events).memory) → Lists s m out (Ok r) m' out'
  unfolding text memory_after
  file_written r m' out' h l w =
      let f = le-ltb _ _ h in
      written r m' out' (omega (arith, room_file h)) (w.1 ∙ sym (cond_false _ _ _ f))
      (subst (λ (x : List ℕ). Piece out 0 x out' r) (sym (cond_false _ _ _ f)) w.0)
