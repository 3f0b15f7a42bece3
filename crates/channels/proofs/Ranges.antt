-- The mask and the cursor in range, by the test of the code; and how many values a clock moves then.
use Prim.Native.Nat.{ℕ}
use mathlib.Core.Path.{◌≡◌, refl, sym, ◌∙◌}
use mathlib.Core.Logic.{◌≢◌}
use mathlib.Core.Bool.{true, cond, ◌||◌}
use mathlib.Core.List.{List}
use borrow.Author.Tests.{leb-true, ltb-true, le-leb, lt-ltb}
use lib.Dec.{ltb}
use lib.ListN.{length, replicate, length-replicate}
use Rattle.rules.specs.declared.Core.{Core}
use Rattle.rules.specs.Clocks.{idle, targets, moving}
use Rattle.rules.proofs.Choice.{cases, and_both, both_and, cond_true}
use Rattle.channels.specs.Serving.{Sober, sober, to_move}

sober_says : (c : Core) → sober c ≡ true → Sober c
unfolding sober
sober_says c h =
    let t = and_both _ _ h in
    record { mask = ltb-true _ _ t.0; cursor = leb-true _ _ t.1 }

says_sober : (c : Core) → Sober c → sober c ≡ true
unfolding sober
says_sober c s = both_and _ _ (lt-ltb _ _ s.mask) (le-leb _ _ s.cursor)

-- a clock that is to move values has a core in range
pub move_sober : (c : Core) (n : ℕ) → to_move c n ≢ 0 → Sober c
unfolding to_move
move_sober c n = cases (λ (k : ℕ). k ≢ 0 → Sober c) (sober c) (λ t h. sober_says c t) (λ t h. absurd (h refl))

-- how many move goes by how many are stored
moving_by : (c : Core) (buf : List ℕ) (n : ℕ) → length buf ≡ n → moving c buf ≡ cond (idle c || ltb n (length (targets c))) 0 (length (targets c))
unfolding moving
moving_by c buf n e = λ i. cond (idle c || ltb (e i) (length (targets c))) 0 (length (targets c))

pub moving_count : (c : Core) (n : ℕ) → moving c (replicate n 0) ≡ cond (idle c || ltb n (length (targets c))) 0 (length (targets c))
moving_count c n = moving_by c (replicate n 0) n (length-replicate n 0)

-- it moves what the rules say
pub move_moving : (c : Core) (buf : List ℕ) (n : ℕ) → Sober c → length buf ≡ n → to_move c n ≡ moving c buf
unfolding to_move
move_moving c buf n s e = cond_true _ _ _ (says_sober c s) ∙ moving_count c n ∙ sym (moving_by c buf n e)
