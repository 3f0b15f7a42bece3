-- What is answered for a session file, in its three cases.
use Prim.Native.Nat.{ℕ, suc, ◌≤◌, ◌<◌}
use mathlib.Core.Path.{◌≡◌, refl, sym, ap, ◌∙◌}
use mathlib.Core.Bool.{Bool, true, false, cond, true≢false}
use mathlib.Core.List.{List}
use native.Mathlib.Omega.{arith}
use borrow.Author.Tests.{ltb-true, ltb-false}
use lib.Dec.{ltb, eqb}
use lib.ListN.{length}
use Rattle.file_rules.specs.declared.Fault.{Fault}
use Rattle.file_rules.specs.declared.Fault.TheVariants.{Version, Cut, Length, Kind}
use Rattle.file_rules.specs.Item.{End}
use Rattle.file_rules.specs.Item.{File, Refused}
use Rattle.file_rules.specs.File.{session, verdict, fault_number}
use Rattle.size_rules.specs.Smallest.{replays, plays_in_turn, codes, lowest, replayed, size_refusal, size_code, size_memory}
use Rattle.size_rules.specs.Theorems.{Plays, Loses}
use Rattle.size_rules.proofs.Higher.{turn_plays, turn_loses}
use Rattle.size_rules.proofs.Lowest.{LowestOf, lowest_of_lem}

-- to show a fact of the refusal, the code and the memory left, show it of a file that is refused, of a code that is named, and of 19
pub size_cases : (P : ℕ → ℕ → List ℕ → Type 0) (s m : List ℕ)
    → ((why : Fault) (p : ℕ) → (session s).end ≡ Refused why p → P (fault_number why) 0 m)
    → ((session s).end ≡ File → lowest (session s).events m < codes
    → P 0 (lowest (session s).events m) (replays (session s).events m (suc (lowest (session s).events m))))
    → ((session s).end ≡ File → codes ≤ lowest (session s).events m → P 19 0 (replays (session s).events m codes))
    → P (size_refusal s m) (size_code s m) (size_memory s m)
unfolding size_refusal size_code size_memory fault_number
size_cases P s m bad some none = go (session s).end refl
  where
    low : ℕ
    low = lowest (session s).events m

    -- what is answered if the file ends so
    refusal_at : End → ℕ
    refusal_at x = cond (eqb (verdict x).number 0) (cond (ltb low codes) 0 19) (verdict x).number

    Answered : End → Type 0
    Answered x =
        P (refusal_at x) (cond (eqb (refusal_at x) 0) low 0)
        (cond (eqb (verdict x).number 0) (replays (session s).events m (replayed low)) m)

    ended : (session s).end ≡ File → (t : Bool) → ltb low codes ≡ t
        → P (cond t 0 19) (cond (eqb (cond t 0 19) 0) low 0) (replays (session s).events m (cond t (suc low) codes))
    ended h true l = some h (ltb-true low codes l)
    ended h false l = none h (ltb-false low codes l)

    go : (x : End) → (session s).end ≡ x → Answered x
    go File h = ended h (ltb low codes) refl
    go (Refused Version p) h = bad Version p h
    go (Refused Cut p) h = bad Cut p h
    go (Refused Length p) h = bad Length p h
    go (Refused Kind p) h = bad Kind p h

-- ---- A file ends in one way

abbrev fault_in : Fault → End → Fault
fault_in d File = d
fault_in d (Refused why p) = why

abbrev ends_well : End → Bool
ends_well File = true
ends_well (Refused why p) = false

pub not_both_ends : (x : End) (why : Fault) (p : ℕ) → x ≡ File → x ≡ Refused why p → ⊥
not_both_ends x why p h k = true≢false (ap ends_well (sym h ∙ k))

pub one_fault : (x : End) (why why' : Fault) (p p' : ℕ) → x ≡ Refused why p → x ≡ Refused why' p' → why ≡ why'
one_fault x why why' p p' h k = ap (fault_in why) (sym h ∙ k)

-- ---- The lowest code that plays

module _ (s m : List ℕ) where
  abbrev pub code_found : ℕ
  code_found = lowest (session s).events m

  lowest_told : LowestOf (plays_in_turn (session s).events m) codes 0 code_found
  unfolding lowest
  lowest_told = lowest_of_lem (plays_in_turn (session s).events m) codes 0

  pub found_plays : code_found < codes → Plays s (length m) code_found
  found_plays l m' q = turn_plays (session s).events m m' code_found q (omega (arith, l)) (lowest_told.passes (omega (arith, l)))

  pub lower_loses : (k : ℕ) → k < code_found → Loses s (length m) k
  lower_loses k l m' q =
      turn_loses (session s).events m m' k q (omega (arith, l, lowest_told.within)) (lowest_told.fails k (omega arith) l)

  pub none_found : codes ≤ code_found → (k : ℕ) → k ≤ 15 → Loses s (length m) k
  none_found h k l = lower_loses k (omega (arith, h, l))
