-- A session with a code in it: what the code changes, and that a higher code is never lower in demand 3's sense.
use Prim.Native.Nat.{ℕ, suc, ◌/◌, ◌%◌, ◌≤◌}
use mathlib.Core.Path.{◌≡◌, refl, sym, ap, subst}
use mathlib.Core.Logic.{◌≢◌}
use mathlib.Core.Bool.{Bool, true, false, cond}
use mathlib.Core.List.{List, [], ◌∷◌}
use native.Mathlib.Omega.{arith}
use borrow.Author.Tests.{eqb-true, eqb-false}
use lib.Dec.{eqb}
use lib.ListN.{length}
use Rattle.laws.specs.Types.{Event, power_up, write, read, signal}
use Rattle.demand3.specs.Demand3.{NeverLower, same, larger, AllNeverLower, none as no_event, next as next_event}
use Rattle.size_rules.specs.Coded.{with_code, sized, sized_all}
use Rattle.size_rules.specs.Laws.{WithCode, put, kept, none, next, Sized-told}

code_put : (k v : ℕ) → k ≤ 15 → (with_code k v % 16 ≡ k) × (with_code k v / 16 ≡ v / 16)
code_put k v l = (omega (arith, l), omega (arith, l))

-- ---- What the code changes

abbrev pub offset_in : Event → ℕ
offset_in (power_up x) = 0
offset_in (write o v) = o
offset_in (read o) = 0
offset_in (signal x) = 0

elsewhere : (e : Event) → offset_in e ≢ 0x0C → (v : ℕ) → e ≢ write 0x0C v
elsewhere e n v h = n (ap offset_in h)

one_told : (k : ℕ) → k ≤ 15 → (e : Event) → WithCode k e (sized k e)
unfolding sized
one_told k l (power_up x) = kept (power_up x) (elsewhere (power_up x) (λ h. omega (arith, h)))
one_told k l (read o) = kept (read o) (elsewhere (read o) (λ h. omega (arith, h)))
one_told k l (signal x) = kept (signal x) (elsewhere (signal x) (λ h. omega (arith, h)))
one_told k l (write o v) = go (eqb o 0x0C) refl
  where
    go : (t : Bool) → eqb o 0x0C ≡ t → WithCode k (write o v) (write o (cond t (with_code k v) v))
    go true h =
        let c = code_put k v l in
        subst (λ (a : ℕ). WithCode k (write a v) (write a (with_code k v))) (sym (eqb-true o 0x0C h)) (put v (with_code k v) c.0 c.1)
    go false h = kept (write o v) (elsewhere (write o v) (eqb-false o 0x0C h))

pub sized_told : Sized-told
unfolding sized_all
sized_told k l [] = none
sized_told k l (e ∷ es) = next (one_told k l e) (sized_told k l es)

pub sized_length : (k : ℕ) (es : List Event) → length (sized_all k es) ≡ length es
unfolding sized_all
sized_length k [] = refl
sized_length k (e ∷ es) = ap suc (sized_length k es)

-- ---- A higher code

never_lower : (j k : ℕ) → j ≤ k → k ≤ 15 → (e : Event) → NeverLower (sized j e) (sized k e)
unfolding sized
never_lower j k l h (power_up x) = same (power_up x)
never_lower j k l h (read o) = same (read o)
never_lower j k l h (signal x) = same (signal x)
never_lower j k l h (write o v) = go (eqb o 0x0C) refl
  where
    go : (t : Bool) → eqb o 0x0C ≡ t → NeverLower (write o (cond t (with_code j v) v)) (write o (cond t (with_code k v) v))
    go true q =
        subst (λ (a : ℕ). NeverLower (write a (with_code j v)) (write a (with_code k v))) (sym (eqb-true o 0x0C q))
        (larger (with_code j v) (with_code k v) (omega (arith, l, h)) (omega (arith, l, h)))
    go false q = same (write o v)

pub all_never_lower : (j k : ℕ) → j ≤ k → k ≤ 15 → (es : List Event) → AllNeverLower (sized_all j es) (sized_all k es)
unfolding sized_all
all_never_lower j k l h [] = no_event
all_never_lower j k l h (e ∷ es) = next_event (never_lower j k l h e) (all_never_lower j k l h es)
