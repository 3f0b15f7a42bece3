-- What a file leaves that is refused behind good records, and one that is too long (01, "Session file and listing").
--   Refused-left      the memory, the lines and the levels are those of the records before it
--   Too-long-memory   a file that is too long leaves the memory as it was
use Rattle.std.specs.Prelude.{ℕ, ◌≤◌, ◌<◌, ◌≡◌, List, ◌++◌, length}
use Rattle.rules.specs.declared.Event.{Event}
use Rattle.rules.specs.Record.{start}
use Rattle.rules.specs.Session.{after}
use Rattle.file_rules.specs.declared.Fault.{Fault}
use Rattle.file_rules.specs.Item.{Refused}
use Rattle.file_rules.specs.Item.{Over}
use Rattle.file_rules.specs.Bytes.{file_of, AllFit}
use Rattle.file_rules.specs.File.{fault_number, item_at}
use Rattle.basics.specs.Ascii.{ascii}
use Rattle.listing_rules.specs.Text.{decimal, levels_line}
use Rattle.listing_rules.specs.Listing.{levels_of, text, memory_after}

-- 01: "A file refusal stops it, and record and memory stay as the earlier records left them": of a file s beside the file of its events
pub record LeftRefused (es : List Event) (s m : List ℕ) (n p : ℕ) : Type 0 where
  pub memory : memory_after s m ≡ memory_after (file_of es) m
  pub played : memory_after s m ≡ (after (start m) es).memory
  -- the texts of both files up to the levels, "`FILE n p` .. before LEVELS" aside
  pub lines : List ℕ
  pub whole : text (file_of es) m ≡ lines ++ levels_line (levels_of (after (start m) es))
  pub refused : text s m
      ≡ lines
      ++ (ascii "FILE " ++ decimal n ++ ascii " " ++ decimal p ++ ascii "\n")
      ++ levels_line (levels_of (after (start m) es))

abbrev pub Refused-left : Type 0
Refused-left =
    (es : List Event) (ys m : List ℕ) (why : Fault) (p : ℕ)
    → AllFit es
    → length (file_of es ++ ys) ≤ 65536
    → item_at (file_of es ++ ys) (length (file_of es)) ≡ Over (Refused why p)
    → LeftRefused es (file_of es ++ ys) m (fault_number why) p

-- 01: "(at most 65,536 bytes ..)"; "A longer input prints only `TOO LONG`.": it is not run
abbrev pub Too-long-memory : Type 0
Too-long-memory = (s m : List ℕ) → 65536 < length s → memory_after s m ≡ m
