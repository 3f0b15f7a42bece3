-- The records of loads: how long they are, joined, and the mark that the last of them has.
use Prim.Native.Nat.{ℕ, ◌+◌, ◌*◌, ◌≤◌}
use mathlib.Core.Path.{◌≡◌, refl, sym, ap, ◌∙◌}
use mathlib.Core.Logic.{◌≢◌}
use mathlib.Core.Bool.{Bool, cond}
use mathlib.Core.List.{List, [], ◌∷◌, ◌++◌, map}
use native.Mathlib.Omega.{arith}
use borrow.Author.Tests.{eq-eqb, ne_eqb}
use lib.ListN.{length}
use Rattle.rules.specs.declared.Event.TheVariants.{Write as write}
use Rattle.file_rules.specs.Bytes.{bytes_of, records_of}
use Rattle.cut_rules.specs.Cut.{eof_on_last}
use Rattle.writer.specs.Cutting.{load_record, load_records}

pub loads_long : (end at : ℕ) (vs : List ℕ) → length (load_records end at vs) ≡ 8 * length vs
unfolding load_records
loads_long end at [] = refl
loads_long end at (v ∷ vs) = omega (arith, loads_long end (at + 8) vs)

pub loads_append : (end at : ℕ) (vs ws : List ℕ) → load_records end at vs ++ load_records end (at + 8 * length vs) ws ≡ load_records end at (vs ++ ws)
unfolding load_records
loads_append end at [] ws = let e : at + 8 * 0 ≡ at = omega arith in ap (λ (n : ℕ). load_records end n ws) e
loads_append end at (v ∷ vs) ws =
    let e : at + 8 * length (v ∷ vs) ≡ at + 8 + 8 * length vs = omega arith in
    ap (λ (ls : List ℕ). load_record end at v ++ ls)
    (ap (λ (n : ℕ). load_records end (at + 8) vs ++ load_records end n ws) e ∙ loads_append end (at + 8) vs ws)

-- none is left where the session ends
pub loads_over : (end at : ℕ) (vs : List ℕ) → at + 8 * length vs ≡ end → end ≤ at → load_records end at vs ≡ []
unfolding load_records
loads_over end at [] e l = refl
loads_over end at (v ∷ vs) e l = absurd (omega (arith, e))

-- ---- The mark

module _ (end at v : ℕ) where
  pub last_load : at + 8 ≡ end → bytes_of (write 0x18 (v + 0x10000)) ≡ load_record end at v
  last_load e = ap (λ (t : Bool). bytes_of (write 0x18 (cond t (v + 0x10000) v))) (sym (eq-eqb (at + 8) end e))

  pub other_load : at + 8 ≢ end → bytes_of (write 0x18 v) ≡ load_record end at v
  other_load d = ap (λ (t : Bool). bytes_of (write 0x18 (cond t (v + 0x10000) v))) (sym (ne_eqb (at + 8) end d))

-- 02: "EOF on the very last and on no other"
pub loads_marked : (end at : ℕ) (vs : List ℕ) → at + 8 * length vs ≡ end → load_records end at vs ≡ records_of (map (write 0x18) (eof_on_last vs))
unfolding load_records records_of eof_on_last
loads_marked end at [] e = refl
loads_marked end at (v ∷ []) e = ap (λ (ls : List ℕ). ls ++ []) (sym (last_load end at v (omega (arith, e))))
loads_marked end at (v ∷ w ∷ vs) e =
    let later = loads_marked end (at + 8) (w ∷ vs) (omega (arith, e)) in
    λ i. sym (other_load end at v (λ f. omega (arith, e, f))) i ++ later i
