-- The tests of the public functions say just what those below count on; and so what the promises say of a core and a ring that fit.
use Prim.Native.Nat.{ℕ, ◌≤◌, ◌<◌}
use mathlib.Core.Path.{◌≡◌, sym, ap, ◌∙◌}
use mathlib.Core.Bool.{Bool, true, false, cond}
use mathlib.Core.List.{List}
use native.Mathlib.Omega.{arith}
use borrow.Author.Tests.{leb-true, leb-false, ltb-true, le-leb, lt-ltb}
use lib.Dec.{leb}
use lib.ListN.{length}
use Rattle.rules.specs.Bits.{active_from}
use Rattle.rules.specs.declared.Core.{Core}
use Rattle.rules.specs.declared.Ring.{Ring}
use Rattle.rules.specs.declared.Fate.{Fate}
use Rattle.rules.specs.declared.Fate.TheVariants.{Stored as was_stored}
use Rattle.rules.specs.Clocks.{fate_number, closed}
use Rattle.rules.specs.Writes.{write_data}
use Rattle.rules.proofs.Choice.{cases, and_both, both_and, all_cons, cons_all, all_nil}
use Rattle.channels.proofs.Ones.{no_channels}
use Rattle.moves.specs.Ready.{Ready, fits, can_load, fate_of}
use Rattle.moves.specs.Promises.{load_of}

-- ---- The ring

pub fits_ready : (ring : Ring) (d : ℕ) (m : List ℕ) → fits ring d (length m) ≡ true → Ready d ring m
unfolding fits
fits_ready ring d m h =
    let h1 = all_cons _ _ h in
    let h2 = all_cons _ _ h1.1 in
    let h3 = all_cons _ _ h2.1 in
    let h4 = all_cons _ _ h3.1 in
    record { first = ltb-true _ _ h1.0; count = leb-true _ _ h2.0; enough = leb-true _ _ h3.0; small = leb-true _ _ h4.0 }

pub ready_fits : (ring : Ring) (d : ℕ) (m : List ℕ) → Ready d ring m → fits ring d (length m) ≡ true
unfolding fits
ready_fits ring d m r =
    cons_all _ _ (lt-ltb _ _ r.first)
    (cons_all _ _ (le-leb _ _ r.count) (cons_all _ _ (le-leb _ _ r.enough) (cons_all _ _ (le-leb _ _ r.small) all_nil)))

-- a channel is served only where the ring lies in the memory
pub served_ready : (ring : Ring) (d : ℕ) (m : List ℕ) (mask ks : ℕ) (t : Bool) → t ≡ fits ring d (length m) → ks ≡ cond t mask 0
    → 0 < length (active_from 0 ks) → Ready d ring m
served_ready ring d m mask ks true e f h = fits_ready ring d m (sym e)
served_ready ring d m mask ks false e f h = absurd (omega (arith, ap (λ (n : ℕ). length (active_from 0 n)) f, ap (length {A = ℕ}) no_channels, h))

-- ---- A load

load_ready_lem : (size : ℕ) (ring : Ring) (d : ℕ) (m : List ℕ) → can_load size ring d (length m) ≡ true → Ready d ring m × (size ≤ d)
unfolding can_load
load_ready_lem size ring d m h =
    let t = and_both _ _ h in
    (fits_ready ring d m t.0, leb-true _ _ t.1)

ready_load : (size : ℕ) (ring : Ring) (d : ℕ) (m : List ℕ) → Ready d ring m → size ≤ d → can_load size ring d (length m) ≡ true
unfolding can_load
ready_load size ring d m r s = both_and _ _ (ready_fits ring d m r) (le-leb _ _ s)

-- a load that is stored has its place
pub record Fitting (c : Core) (size : ℕ) (ring : Ring) (d : ℕ) (m : List ℕ) : Type 0 where
  pub can : can_load size ring d (length m) ≡ true
  pub ready : Ready d ring m
  pub unclosed : closed c ≡ false
  pub unfull : leb size ring.count ≡ false
  pub room : ring.count < d

fate_says : (c : Core) (size : ℕ) (ring : Ring) (d : ℕ) (m : List ℕ) → fate_of c size ring d (length m) ≡ 1 → Fitting c size ring d m
unfolding fate_of
fate_says c size ring d m =
    cases (λ (n : ℕ). n ≡ 1 → Fitting c size ring d m) (can_load size ring d (length m))
    (λ t. cases (λ (n : ℕ). n ≡ 1 → Fitting c size ring d m) (closed c)
    (λ u h. absurd (omega (arith, h)))
    (λ u. cases (λ (n : ℕ). n ≡ 1 → Fitting c size ring d m) (leb size ring.count)
    (λ v h. absurd (omega (arith, h)))
    (λ v h. let r = load_ready_lem size ring d m t in
    record { can = t; ready = r.0; unclosed = u; unfull = v; room = omega (arith, r.1, leb-false size ring.count v) })))
    (λ t h. absurd (omega (arith, h)))

pub stored_fits : {c : Core} {size : ℕ} {ring : Ring} {d : ℕ} {m : List ℕ} {f : Fate}
    → fate_number f ≡ fate_of c size ring d (length m) → f ≡ was_stored → Fitting c size ring d m
stored_fits {c} {size} {ring} {d} {m} e s = fate_says c size ring d m (sym e ∙ ap fate_number s)

-- on a ring that fits, a load is what the rules say of it
pub load_whole : (c : Core) (size : ℕ) (ring : Ring) (d v : ℕ) (m : List ℕ) → Ready d ring m → size ≤ d
    → load_of c size ring d v (length m) ≡ write_data c (leb size ring.count) v
load_whole c size ring d v m r s = rw (ready_load size ring d m r s)
