-- The sixty numbers, written as the three of one channel after another.
use Prim.Native.Nat.{ℕ, zero, suc, ◌+◌, ◌*◌, ◌≤◌, ◌<◌}
use mathlib.Core.Path.{◌≡◌, refl, sym, ap, ◌∙◌}
use mathlib.Core.List.{List, [], ◌∷◌, ◌++◌, append-nil}
use native.Mathlib.Nat.{zero-add}
use native.Mathlib.Omega.{arith}
use lib.ListN.{length, get_or, take, drop_of_length-le}
use lib.Seq.{paste, paste-zero, take-length}
use lib.Ieee.{Float}
use borrow.Rule.Slice.PartMut.{put_mid}
use Rattle.std.proofs.lemmas.List.{length-take-le}
use Rattle.std.proofs.lemmas.List.Edits.{paste_all, paste-paste}
use Rattle.std.proofs.lemmas.Slice.{put_mid-paste}
use Rattle.volt_rules.specs.declared.Extremes.{Extremes}
use Rattle.volts.specs.Watching.{no_channel}
use Rattle.volts.specs.Promises.{three, numbers_of}

numbers_length : (xs : List Extremes) → length (numbers_of xs) ≡ 3 * length xs
unfolding numbers_of
numbers_length [] = refl
numbers_length (x ∷ xs) = omega (arith, numbers_length xs)

-- one channel more
numbers_more : (xs : List Extremes) (k : ℕ) → k < length xs → numbers_of (take k xs) ++ three (get_or xs k no_channel) ≡ numbers_of (take (suc k) xs)
unfolding numbers_of
numbers_more [] k h = absurd (omega (arith, h))
numbers_more (x ∷ xs) zero h = refl
numbers_more (x ∷ xs) (suc k) h = λ i. three x ++ numbers_more xs k (omega (arith, h)) i

-- those of the first k channels stand there, over what was there
pub record Filled (a₀ : List Float) (xs : List Extremes) (k : ℕ) (a : List Float) : Type 0 where
  pub room : length a₀ ≡ 60
  pub twenty : length xs ≡ 20
  pub so_far : a ≡ paste a₀ 0 (numbers_of (take k xs)) (3 * k)

pub filled_none : (a₀ : List Float) (xs : List Extremes) → length a₀ ≡ 60 → length xs ≡ 20 → Filled a₀ xs 0 a₀
filled_none a₀ xs l m = record { room = l; twenty = m; so_far = paste-zero a₀ 0 (numbers_of (take 0 xs)) }

module _ {a₀ : List Float} {xs : List Extremes} {k : ℕ} {a : List Float} (w : Filled a₀ xs k a) where
  -- how many stand there
  so_many : k ≤ 20 → 3 * k ≡ length (numbers_of (take k xs))
  so_many h = omega (arith, numbers_length (take k xs), length-take-le k xs (omega (arith, w.twenty, h)))

  pub filled_next : k < 20 → (n : ℕ) (ys : List Float) → n ≡ 3 → ys ≡ three (get_or xs k no_channel) → Filled a₀ xs (k + 1) (put_mid (3 * k) n a ys)
  filled_next h n ys e same =
      let s = numbers_of (take k xs) in
      let x = three (get_or xs k no_channel) in
      let next : suc k ≡ k + 1 = omega arith in
      let long : 3 * k + 3 ≡ 3 * (k + 1) = omega arith in
      let more = numbers_more xs k (omega (arith, w.twenty, h)) ∙ ap (λ (m : ℕ). numbers_of (take m xs)) next in
      record {
        room = w.room;
        twenty = w.twenty;
        so_far =
            put_mid-paste (3 * k) n a ys x 3 same (sym e) refl
            ∙ (λ i. paste (w.so_far i) (sym (zero-add (3 * k)) i) x 3)
            ∙ paste-paste a₀ 0 s x (3 * k) 3 (so_many (omega (arith, h))) refl (omega arith)
            ∙ (λ i. paste a₀ 0 (more i) (long i));
      }

  pub filled_all : k ≡ 20 → a ≡ numbers_of xs
  filled_all h =
      let s = numbers_of (take k xs) in
      let all : k ≡ length xs = omega (arith, h, w.twenty) in
      w.so_far
      ∙ paste_all a₀ 0 s (3 * k) (so_many (omega (arith, h)))
      ∙ ap (λ (p : List Float). s ++ p) (drop_of_length-le a₀ {i = 0 + 3 * k} (omega (arith, w.room, h)))
      ∙ append-nil s
      ∙ ap numbers_of (ap (λ (n : ℕ). take n xs) all ∙ take-length xs)
