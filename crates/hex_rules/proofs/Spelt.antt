-- Bytes that are written with two digits each are read back (specs/Laws).
use Prim.Native.Nat.{ℕ, zero, suc, ◌+◌, ◌*◌, ◌/◌, ◌%◌, ◌≤◌, ◌<◌}
use mathlib.Core.Path.{◌≡◌, refl, sym, ap, ◌∙◌}
use mathlib.Core.Bool.{false}
use mathlib.Core.List.{List, [], ◌∷◌, ◌++◌, append_assoc, append-nil}
use native.Mathlib.Nat.{div-add-mod}
use native.Mathlib.Omega.{arith}
use lib.Dec.{leb, ltb}
use lib.ListN.{length, length-append}
use lib.Seq.{get_or-append_seam, get_or-append-add}
use borrow.Author.Tests.{ltb-true, ltb-false, le-ltb, le-leb, lt-leb, ne_eqb}
use Rattle.rules.proofs.Choice.{cases, cond_false}
use Rattle.hex_rules.specs.declared.Mark.TheVariants.{Byte}
use Rattle.hex_rules.specs.Hex.{hex_worth, byte_of, mark_of, mark_at, whole, on_mark, hex_from, opening_of, hex_reading}
use Rattle.hex_rules.specs.Laws.{hex_digit, spelt, AllBytes, none, next, Spelt-read}

-- ---- One byte

worth_low : (d : ℕ) → d < 10 → hex_worth (48 + d) ≡ d
unfolding hex_worth
worth_low d h = rw (le-leb 48 (48 + d) (omega arith), le-leb (48 + d) 57 (omega arith)) (omega arith)

worth_high : (d : ℕ) → 10 ≤ d → d < 16 → hex_worth (55 + d) ≡ d
unfolding hex_worth
worth_high d h k =
    rw (le-leb 48 (55 + d) (omega arith), lt-leb (55 + d) 57 (omega arith), le-leb 65 (55 + d) (omega arith), le-leb (55 + d) 70 (omega arith))
    (omega arith)

hex_worth_digit : (d : ℕ) → d < 16 → hex_worth (hex_digit d) ≡ d
unfolding hex_digit
hex_worth_digit d h =
    cases (λ (c : ℕ). hex_worth c ≡ d) (ltb d 10) (λ t. worth_low d (ltb-true d 10 t)) (λ t. worth_high d (ltb-false d 10 t) h)

digit_between : (d : ℕ) → d < 16 → (48 ≤ hex_digit d) × (hex_digit d ≤ 70)
unfolding hex_digit
digit_between d h =
    cases (λ (c : ℕ). (48 ≤ c) × (c ≤ 70)) (ltb d 10) (λ t. (omega arith, omega (arith, ltb-true d 10 t))) (λ t. (omega arith, omega arith))

-- no digit is a control character, a `#` or a blank
mark_digit : (c e : ℕ) → 48 ≤ c → c ≤ 70 → mark_of c e false ≡ byte_of (hex_worth c) (hex_worth e)
unfolding mark_of
mark_digit c e h k =
    rw (
      le-ltb c 32 (omega arith),
      ne_eqb c 127 (λ p. omega (arith, p)),
      ne_eqb c 35 (λ p. omega (arith, p)),
      ne_eqb c 32 (λ p. omega (arith, p)),
      ne_eqb c 9 (λ p. omega (arith, p)),
      ne_eqb c 10 (λ p. omega (arith, p)),
      ne_eqb c 13 (λ p. omega (arith, p)),
    )

byte_of_lem : (h l : ℕ) → h < 16 → l < 16 → byte_of h l ≡ Byte (16 * h + l)
unfolding byte_of
byte_of_lem h l p q = rw (le-ltb 15 h (omega arith), le-ltb 15 l (omega arith))

mark_two : (b : ℕ) → b < 256 → mark_of (hex_digit (b / 16)) (hex_digit (b % 16)) false ≡ Byte b
mark_two b h =
    let k = digit_between (b / 16) (omega arith) in
    mark_digit (hex_digit (b / 16)) (hex_digit (b % 16)) k.0 k.1
    ∙ (λ i. byte_of (hex_worth_digit (b / 16) (omega arith) i) (hex_worth_digit (b % 16) (omega arith) i))
    ∙ byte_of_lem (b / 16) (b % 16) (omega arith) (omega arith)
    ∙ ap Byte (div-add-mod b 16)

-- ---- All of them

-- two digits that stand at a place are read as their byte
two_read : (xs ys : List ℕ) (b : ℕ) → b < 256 → (f : ℕ)
    → hex_from (suc f) (xs ++ hex_digit (b / 16) ∷ hex_digit (b % 16) ∷ ys) (length xs) false
    ≡ on_mark (hex_from f (xs ++ hex_digit (b / 16) ∷ hex_digit (b % 16) ∷ ys)) (length xs) (Byte b)
unfolding hex_from
two_read xs ys b h f =
    let t : List ℕ = xs ++ hex_digit (b / 16) ∷ hex_digit (b % 16) ∷ ys in
    let mark : mark_at t (length xs) false ≡ Byte b =
    (λ i. mark_of (get_or-append_seam xs (hex_digit (b / 16)) (hex_digit (b % 16) ∷ ys) 0 i) (get_or-append-add xs (hex_digit (b / 16) ∷ hex_digit (b % 16) ∷ ys) 1 0 i) false)
    ∙ mark_two b h in
    let before : length xs < length t = rw length-append (omega arith) in
    cond_false (leb (length t) (length xs)) _ _ (lt-leb (length t) (length xs) before) ∙ ap (on_mark (hex_from f t) (length xs)) mark

spelt_from : (xs bs : List ℕ) → AllBytes bs → (f : ℕ) → length (spelt bs) < f
    → hex_from f (xs ++ spelt bs) (length xs) false ≡ record { bytes = bs; stop = whole }
unfolding spelt hex_from
spelt_from xs [] none zero l = absurd (omega arith)
spelt_from xs [] none (suc f) l = rw (append-nil xs, le-leb (length xs) (length xs) (omega arith))
spelt_from xs (b ∷ bs) (next h hs) zero l = absurd (omega arith)
spelt_from xs (b ∷ bs) (next h hs) (suc f) l =
    let ds : List ℕ = hex_digit (b / 16) ∷ hex_digit (b % 16) ∷ [] in
    let rest : hex_from f (xs ++ ds ++ spelt bs) (length (xs ++ ds)) false ≡ record { bytes = bs; stop = whole } =
    spelt_from (xs ++ ds) bs hs f (omega arith) in
    let there : hex_from f (xs ++ hex_digit (b / 16) ∷ hex_digit (b % 16) ∷ spelt bs) (length xs + 2) false ≡ record { bytes = bs; stop = whole } =
    sym (λ i. hex_from f (append_assoc xs ds (spelt bs) i) (length-append xs ds i) false) ∙ rest in
    two_read xs (spelt bs) b h f ∙ (λ i. record { bytes = b ∷ (there i).bytes; stop = (there i).stop })

-- no digit opens a byte order mark
spelt_opening : (bs : List ℕ) → AllBytes bs → opening_of (spelt bs) ≡ 0
unfolding opening_of spelt
spelt_opening [] none = refl
spelt_opening (b ∷ bs) (next h hs) =
    let k = digit_between (b / 16) (omega arith) in
    rw (ne_eqb (hex_digit (b / 16)) 239 (λ p. omega (arith, p, k.1)))

pub spelt_read : Spelt-read
unfolding hex_reading
spelt_read bs h = rw (spelt_opening bs h) (spelt_from [] bs h (suc (length (spelt bs))) (omega arith))
