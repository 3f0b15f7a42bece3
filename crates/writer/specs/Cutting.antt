-- A cut of a recording, as the loops that write it have it before them.
--   values_of a b mask       how many numbers an order chooses
--   groups_of q              the numbers of the chosen groups
--   picked group ks          the numbers of the channels ks of a group
--   load_records end at vs   the records that load the values vs, the first of them at `at`, in a session that ends at `end`
use Rattle.std.specs.Prelude.{ℕ, suc, ◌+◌, ◌*◌, ◌-◌, ◌≡◌, refl, cond, List, [], ◌∷◌, ◌++◌, map, eqb, get_or, take, drop}
use Rattle.std.specs.Int.Count.{ones}
use Rattle.rules.specs.declared.Event.TheVariants.{Write as write}
use Rattle.file_rules.specs.Bytes.{bytes_of}
use Rattle.cut_rules.specs.Cut.{Cut}

-- of the groups from the first to the last, "both taken", a number for each one of the mask
abbrev pub values_of : ℕ → ℕ → ℕ → ℕ
values_of first last mask = (suc last - first) * ones mask

abbrev pub groups_of : Cut → List ℕ
groups_of q = take ((q.last + 1) * q.channels - q.first * q.channels) (drop (q.first * q.channels) q.recording)

abbrev pub picked : List ℕ → List ℕ → List ℕ
picked group ks = map (λ (k : ℕ). get_or group k 0) ks

-- 02: "EOF on the very last and on no other"; the record of a load has eight bytes, and the last one ends where the session does
abbrev pub load_record : ℕ → ℕ → ℕ → List ℕ
load_record end at v = bytes_of (write 0x18 (cond (eqb (at + 8) end) (v + 0x10000) v))

unfoldable pub load_records : ℕ → ℕ → List ℕ → List ℕ
load_records end at [] = []
load_records end at (v ∷ vs) = load_record end at v ++ load_records end (at + 8) vs

example_loads : load_records 25 9 (7 ∷ 8 ∷ []) ≡ 0 ∷ 6 ∷ 2 ∷ 0x18 ∷ 0 ∷ 0 ∷ 0 ∷ 7 ∷ 0 ∷ 6 ∷ 2 ∷ 0x18 ∷ 0 ∷ 1 ∷ 0 ∷ 8 ∷ []
unfolding load_records
example_loads = refl
