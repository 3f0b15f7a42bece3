-- Counting zeros is the search: by the lowest digit of a mask, of the mask without its lowest one, and of their halves.
use Prim.Native.Nat.{ℕ, zero, suc, ◌+◌, ◌-◌, ◌*◌, ◌/◌, ◌%◌, ◌^◌, ◌≤◌, ◌<◌, min}
use mathlib.Core.Path.{◌≡◌, refl, sym, ap, subst, ◌∙◌}
use mathlib.Core.Bool.{Bool, true, false, cond}
use mathlib.Core.List.{◌∷◌}
use native.Mathlib.Nat.{mod-lt, min-zero, zero-min, min-eq_left, min-eq_right, div-one, zero-add, mul-div_cancel, pow-suc}
use native.Mathlib.Omega.{arith}
use borrow.Author.Tests.{eq-eqb, ne_eqb, ltb-true, ltb-false}
use lib.Arith.{digits_div, digits_mod}
use lib.Bits.{bit_and, and_step, and_self, and_le_r}
use lib.Count.{count_trailing_zeros, under}
use lib.Dec.{eqb, ltb}
use lib.Pow.{pow_pos}
use Rattle.rules.specs.Bits.{active, active_from, head_or}
use Rattle.rules.proofs.Choice.{cond_true, cond_false}
use Rattle.laws.specs.Search.{without, zeros_to, ByZeros, Zeros-tell, word_bits, Cursor-zeros, Group-zeros}
use Rattle.laws.proofs.Actives.{halved}

-- ---- The digits of a number without its lowest one

-- the lowest is 0, since those of x and x - 1 differ; the others are those of the halves
record Low (x half : ℕ) : Type 0 where
  halves : without x / 2 ≡ half
  even : without x % 2 ≡ 0

low : (x : ℕ) → min (x % 2) ((x - 1) % 2) ≡ 0 → Low x (bit_and (x / 2) ((x - 1) / 2))
low x h =
    let half = bit_and (x / 2) ((x - 1) / 2) in
    let e = and_step x (x - 1) ∙ ap (λ (b : ℕ). half * 2 + b) h in
    record { halves = ap (λ (n : ℕ). n / 2) e ∙ digits_div half (omega arith); even = ap (λ (n : ℕ). n % 2) e ∙ digits_mod half (omega arith) }

low_odd : (x : ℕ) → x % 2 ≡ 1 → Low x (x / 2)
low_odd x h =
    let z : (x - 1) % 2 ≡ 0 = omega (arith, h) in
    let s : (x - 1) / 2 ≡ x / 2 = omega (arith, h) in
    let l = low x (ap (λ (b : ℕ). min (x % 2) b) z ∙ min-zero (x % 2)) in
    record { halves = l.halves ∙ ap (λ (y : ℕ). bit_and (x / 2) y) s ∙ and_self (x / 2); even = l.even }

low_even : (x : ℕ) → x % 2 ≡ 0 → Low x (without (x / 2))
low_even x h =
    let s : (x - 1) / 2 ≡ x / 2 - 1 = omega (arith, h) in
    let l = low x (ap (λ (b : ℕ). min b ((x - 1) % 2)) h ∙ zero-min ((x - 1) % 2)) in
    record { halves = l.halves ∙ ap (λ (y : ℕ). bit_and (x / 2) y) s; even = l.even }

-- it is less
pub without_less : (x : ℕ) → 0 < x → without x < x
without_less x h = omega (arith, and_le_r x (x - 1), h)

-- ---- The law

-- the channels from k up go by the digits from k up
active_by : (n k m m' : ℕ) → m / 2 ^ k ≡ m' / 2 ^ k → active n k m ≡ active n k m'
unfolding active
active_by zero k m m' e = refl
active_by (suc n) k m m' e =
    let later = active_by n (suc k) m m' (halved m k ∙ ap (λ (x : ℕ). x / 2) e ∙ sym (halved m' k)) in
    λ i. cond (eqb (e i % 2) 1) (k ∷ later i) (later i)

pub zeros_tell : Zeros-tell
unfolding active count_trailing_zeros
zeros_tell zero w k mask rest h e = record { there = λ l. absurd (omega arith); none = λ _. refl }
zeros_tell (suc n) zero k mask rest h e = absurd (omega arith)
zeros_tell (suc n) (suc w) k mask rest h e =
    go (mask / 2 ^ k % 2) refl (mod-lt (mask / 2 ^ k) (omega arith))
    (λ f. rw (halved mask k) at (zeros_tell n w (suc k) mask rest (omega arith) (f ∙ ap without (sym (halved mask k)))))
  where
    -- from the next channel up the rest has the digits of the half
    upper : {half : ℕ} → Low (mask / 2 ^ k) half → rest / 2 ^ suc k ≡ half
    upper o = halved rest k ∙ ap (λ (y : ℕ). y / 2) e ∙ o.halves

    -- and it has no channel k
    other : {half : ℕ} → Low (mask / 2 ^ k) half → active n (suc k) rest ≡ active (suc n) k rest
    other o =
        let z : rest / 2 ^ k % 2 ≡ 0 = ap (λ (y : ℕ). y % 2) e ∙ o.even in
        sym (cond_false _ _ _ (ne_eqb (rest / 2 ^ k % 2) 1 (λ one. absurd (omega (arith, z, one)))))

    go : (b : ℕ) → mask / 2 ^ k % 2 ≡ b → b < 2
        → (rest / 2 ^ suc k ≡ without (mask / 2 ^ k / 2) → ByZeros n (suc k) mask rest (suc k + count_trailing_zeros w (mask / 2 ^ k / 2)))
        → ByZeros (suc n) k mask rest (k + under b (count_trailing_zeros w (mask / 2 ^ k / 2)))
    go zero z l f =
        let o = low_even (mask / 2 ^ k) z in
        let r = f (upper o) in
        let off : active (suc n) k mask ≡ active n (suc k) mask = cond_false _ _ _ (ne_eqb (mask / 2 ^ k % 2) 1 (λ one. absurd (omega (arith, z, one)))) in
        let at : suc k + count_trailing_zeros w (mask / 2 ^ k / 2) ≡ k + suc (count_trailing_zeros w (mask / 2 ^ k / 2)) = omega arith in
        record {
          there = λ l. off ∙ r.there (omega (arith, l)) ∙ (λ i. at i ∷ other o i);
          none = λ l. off ∙ r.none (omega (arith, l));
        }
    go (suc zero) z l f =
        let o = low_odd (mask / 2 ^ k) z in
        let on : active (suc n) k mask ≡ k ∷ active n (suc k) mask = cond_true _ _ _ (eq-eqb (mask / 2 ^ k % 2) 1 z) in
        let later = active_by n (suc k) mask rest (halved mask k ∙ sym (upper o)) in
        let at : k ≡ k + 0 = omega arith in
        record { there = λ _. on ∙ (λ i. at i ∷ (later ∙ other o) i); none = λ l. absurd (omega (arith, l)) }
    go (suc (suc b)) z l f = absurd (omega arith)

-- ---- Its two uses

pub cursor_zeros : Cursor-zeros
unfolding head_or
cursor_zeros k mask h = go (ltb (zeros_to word_bits k mask) 20) refl
  where
    -- what rests is not asked for here: any mask with the right digits will do
    tell : ByZeros (20 - k) k mask (without (mask / 2 ^ k) * 2 ^ k) (zeros_to word_bits k mask)
    tell = zeros_tell (20 - k) word_bits k mask _ (omega arith) (mul-div_cancel (without (mask / 2 ^ k)) (pow_pos k))

    go : (t : Bool) → ltb (zeros_to word_bits k mask) 20 ≡ t → head_or 20 (active_from k mask) ≡ min (zeros_to word_bits k mask) 20
    go true t =
        let l = ltb-true (zeros_to word_bits k mask) 20 t in
        ap (head_or 20) (tell.there (omega (arith, l, h))) ∙ sym (min-eq_left (omega (arith, l)))
    go false t =
        let l = ltb-false (zeros_to word_bits k mask) 20 t in
        ap (head_or 20) (tell.none (omega (arith, l, h))) ∙ sym (min-eq_right l)

pub group_zeros : Group-zeros
group_zeros mask =
    let whole = div-one mask in
    subst (ByZeros 20 0 mask (without mask)) (zero-add _ ∙ ap (count_trailing_zeros word_bits) whole)
    (zeros_tell 20 word_bits 0 mask (without mask) (omega arith) (div-one (without mask) ∙ ap without (sym whole)))

-- the zeros of a number that is not 0 do not lead past its last bit
pub zeros_below : (n w x : ℕ) → n ≤ w → 0 < x → x < 2 ^ n → count_trailing_zeros w x < n
unfolding count_trailing_zeros
zeros_below zero w x h p l = absurd (omega arith)
zeros_below (suc n) zero x h p l = absurd (omega arith)
zeros_below (suc n) (suc w) x h p l = go (x % 2) refl (λ e. zeros_below n w (x / 2) (omega arith) (omega (arith, e, p)) (omega (arith, l, pow-suc 2 n)))
  where
    go : (b : ℕ) → x % 2 ≡ b → (x % 2 ≡ 0 → count_trailing_zeros w (x / 2) < n) → under b (count_trailing_zeros w (x / 2)) < suc n
    go zero e f = omega (arith, f e)
    go (suc b) e f = omega arith
