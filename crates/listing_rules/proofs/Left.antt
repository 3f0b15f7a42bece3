-- What a refused file and a too long one leave (specs/Left).
use Prim.Native.Nat.{ℕ, ◌≤◌}
use mathlib.Core.Path.{◌≡◌, refl, sym, ap, ◌∙◌}
use mathlib.Core.List.{List, ◌++◌, append_assoc}
use native.Mathlib.Omega.{arith}
use borrow.Author.Tests.{lt-ltb, le-ltb}
use lib.ListN.{length, length-append}
use Rattle.rules.specs.Record.{start}
use Rattle.rules.specs.Session.{outcomes, after}
use Rattle.rules.proofs.Choice.{cond_true, cond_false}
use Rattle.file_rules.specs.declared.Fault.TheVariants.{Version, Cut, Length, Kind}
use Rattle.file_rules.specs.declared.Fault.{Fault}
use Rattle.file_rules.specs.Item.{File, Refused}
use Rattle.file_rules.specs.Bytes.{file_of}
use Rattle.file_rules.specs.File.{fault_number, Session, session}
use Rattle.file_rules.proofs.Written.{file_read, refused_events}
use Rattle.listing_rules.specs.Text.{heading, file_line, levels_line, tail}
use Rattle.listing_rules.specs.Listing.{lines, levels_of, ending, body, listing, text, memory_after}
use Rattle.listing_rules.specs.Left.{Refused-left, Too-long-memory}
use Rattle.listing_rules.proofs.WholeListing.{not_too_long}
use Rattle.listing_rules.proofs.LinesListed.{file_joined}

pub too_long_memory : Too-long-memory
unfolding memory_after
too_long_memory s m h = cond_true _ _ _ (lt-ltb _ _ h)

-- the memory of a file that is not too long, by its session
memory_left_lem : (s m : List ℕ) (x : Session) → length s ≤ 65536 → session s ≡ x → memory_after s m ≡ (after (start m) x.events).memory
unfolding memory_after
memory_left_lem s m x h e = cond_false _ _ _ (le-ltb _ _ h) ∙ ap (λ (y : Session). (after (start m) y.events).memory) e

-- and its text
text_left : (s m : List ℕ) (x : Session) → length s ≤ 65536 → session s ≡ x → text s m ≡ heading ++ body 1 (start m) x
unfolding listing
text_left s m x h e = not_too_long s m h ∙ ap (λ (y : Session). heading ++ body 1 (start m) y) e

refused_ending : (why : Fault) (p : ℕ) (ls : List ℕ) → ending (Refused why p) ls ≡ file_line (fault_number why) p ++ levels_line ls
unfolding ending tail fault_number
refused_ending Version p ls = refl
refused_ending Cut p ls = refl
refused_ending Length p ls = refl
refused_ending Kind p ls = refl

pub refused_left : Refused-left
unfolding ending tail
refused_left es ys m why p fits short item =
    let s : List ℕ = file_of es ++ ys in
    let good : session (file_of es) ≡ record { events = es; end = File } = file_read es fits in
    let bad : session s ≡ record { events = es; end = Refused why p } = refused_events es ys why p fits item in
    let front : length (file_of es) ≤ 65536 = omega (arith, length-append (file_of es) ys) in
    let shown : List ℕ = lines 1 (outcomes (start m) es) in
    let levels : List ℕ = levels_of (after (start m) es) in
    record {
      memory = memory_left_lem s m _ short bad ∙ sym (memory_left_lem (file_of es) m _ front good);
      played = memory_left_lem s m _ short bad;
      lines = heading ++ shown;
      whole = text_left (file_of es) m _ front good ∙ sym (append_assoc heading shown (levels_line levels));
      refused =
          text_left s m _ short bad
          ∙ ap (λ (z : List ℕ). heading ++ (shown ++ z)) (refused_ending why p levels)
          ∙ sym (append_assoc heading shown _)
          ∙ sym (append_assoc (heading ++ shown) (file_line (fault_number why) p) (levels_line levels))
          ∙ ap (λ (z : List ℕ). heading ++ shown ++ z ++ levels_line levels) (file_joined (fault_number why) p);
    }
