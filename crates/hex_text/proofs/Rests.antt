-- What the loop over a text keeps: the bytes done stand in the output, and with the reading from the place on they are the whole reading.
use Prim.Native.Nat.{ℕ, zero, suc, ◌+◌, ◌≤◌, ◌<◌}
use mathlib.Core.Path.{◌≡◌, refl, sym, ap, ◌∙◌}
use mathlib.Core.Bool.{Bool, false}
use mathlib.Core.List.{List, [], ◌∷◌, ◌++◌, append-nil}
use native.Mathlib.Omega.{arith}
use native.Mathlib.Numerals.{add-one}
use lib.ListN.{length, take, drop, set, length-append, length-drop, drop_of_length-le}
use lib.Seq.{set_at, take_all, take_at, append_snoc, drop-cons}
use borrow.Author.Tests.{lt-leb, le-leb, lt-ltb, le-ltb}
use Rattle.hex_rules.specs.declared.Mark.{Mark}
use Rattle.hex_rules.specs.declared.Mark.TheVariants.{Passed, Byte, Fault}
use Rattle.std.specs.Prelude.{Ok, Err}
use Rattle.hex_text.specs.declared.error.HexError.TheVariants.{Full, NotHex}
use Rattle.hex_rules.specs.Hex.{mark_at, Stop, whole, bad, HexReading, on_mark, hex_from, opening_of, hex_reading}
use Rattle.hex_text.specs.Promises.{Decodes, on_stop, decoded, laid_over}

-- so far: `done` is in the output, and y is the reading from the place on
pub record Sofar (t out₀ out : List ℕ) (at : ℕ) (x : Bool) (n : ℕ) : Type 0 where
  pub done : List ℕ
  pub count : length done ≡ n
  pub room : n ≤ length out₀
  pub laid : out ≡ done ++ drop n out₀
  pub fuel : ℕ
  pub enough : length t < at + fuel
  pub bytes : (hex_reading t).bytes ≡ done ++ (hex_from fuel t at x).bytes
  pub stop : (hex_reading t).stop ≡ (hex_from fuel t at x).stop

pub sofar_start : (t out : List ℕ) (at : ℕ) → at ≡ opening_of t → Sofar t out out at false 0
unfolding hex_reading
sofar_start t out at h = record {
  done = [];
  count = refl;
  room = omega arith;
  laid = refl;
  fuel = suc (length t);
  enough = omega arith;
  bytes = rw h;
  stop = rw h;
}

-- before the end one more character is looked at
more : (f n at : ℕ) → at < n → n < at + f → (g : ℕ) × (f ≡ suc g)
more zero n at h l = absurd (omega arith)
more (suc g) n at h l = (g, refl)

module _ (t out₀ out : List ℕ) (at : ℕ) (x : Bool) (n : ℕ) (s : Sofar t out₀ out at x n) where
  pub sofar_length : length out ≡ length out₀
  sofar_length = ap length s.laid ∙ simp (length-append, length-drop) (omega (arith, s.count, s.room))

  -- where nothing is left to read, what is done is all
  decodes_done : (z : Stop) → (hex_from s.fuel t at x).bytes ≡ [] → (hex_from s.fuel t at x).stop ≡ z → Decodes t out₀ (on_stop n z) out
  unfolding decoded laid_over
  decodes_done z p q =
      let all : (hex_reading t).bytes ≡ s.done = s.bytes ∙ ap (λ (ys : List ℕ). s.done ++ ys) p ∙ append-nil s.done in
      record {
        answer = rw (all, s.count, le-ltb (length out₀) n s.room, s.stop ∙ q);
        output = s.laid ∙ sym (rw (all, s.count, take_all (length out₀) s.done (omega (arith, s.count, s.room))));
      }

  ended : (f : ℕ) → length t ≤ at → hex_from f t at x ≡ record { bytes = []; stop = whole }
  unfolding hex_from
  ended zero l = refl
  ended (suc f) l = rw (le-leb (length t) at l)

  module _ (l : at < length t) where
    next : (g : ℕ) (m : Mark) → m ≡ mark_at t at x → hex_from (suc g) t at x ≡ on_mark (hex_from g t) at m
    unfolding hex_from
    next g m e = rw (lt-leb (length t) at l, e)

    looked : (m : Mark) → m ≡ mark_at t at x
        → (g : ℕ) × (s.fuel ≡ suc g) × (hex_from s.fuel t at x ≡ on_mark (hex_from g t) at m)
    looked m e =
        let f = more s.fuel (length t) at l s.enough in
        (f.0, f.1, ap (λ (k : ℕ). hex_from k t at x) f.1 ∙ next f.0 m e)

    pub sofar_passed : (y : Bool) → Passed y ≡ mark_at t at x → Sofar t out₀ out (at + 1) y n
    sofar_passed y e =
        let k = looked (Passed y) e in
        record {
          done = s.done;
          count = s.count;
          room = s.room;
          laid = s.laid;
          fuel = k.0;
          enough = omega (arith, k.1, s.enough);
          bytes = s.bytes ∙ ap (λ (r : HexReading). s.done ++ r.bytes) k.2;
          stop = s.stop ∙ ap (λ (r : HexReading). r.stop) k.2;
        }

    -- the bytes are those done and more
    more_bytes : (b : ℕ) → Byte b ≡ mark_at t at x → (ys : List ℕ) × ((hex_reading t).bytes ≡ s.done ++ b ∷ ys)
    more_bytes b e =
        let k = looked (Byte b) e in
        ((hex_from k.0 t (at + 2) false).bytes, s.bytes ∙ ap (λ (r : HexReading). s.done ++ r.bytes) k.2)

    pub sofar_byte : (b : ℕ) → Byte b ≡ mark_at t at x → n < length out₀ → Sofar t out₀ (set out n b) (at + 2) false (n + 1)
    sofar_byte b e r =
        let k = looked (Byte b) e in
        record {
          done = s.done ++ b ∷ [];
          count = length-append s.done (b ∷ []) ∙ ap (λ (m : ℕ). m + 1) s.count;
          room = omega arith;
          laid =
              ap (λ (o : List ℕ). set o n b) (s.laid ∙ ap (λ (o : List ℕ). s.done ++ o) (drop-cons out₀ n 0 r))
              ∙ set_at s.done _ (drop (suc n) out₀) b n s.count
              ∙ sym (append_snoc s.done b (drop (suc n) out₀))
              ∙ ap (λ (k : ℕ). (s.done ++ b ∷ []) ++ drop k out₀) (sym (add-one n));
          fuel = k.0;
          enough = omega (arith, k.1, s.enough);
          bytes = s.bytes ∙ ap (λ (r : HexReading). s.done ++ r.bytes) k.2 ∙ sym (append_snoc s.done b _);
          stop = s.stop ∙ ap (λ (r : HexReading). r.stop) k.2;
        }

    -- no room is left for the byte that stands at the place
    pub sofar_full : (b : ℕ) → Byte b ≡ mark_at t at x → length out ≤ n → Decodes t out₀ (Err Full) out
    unfolding decoded laid_over
    sofar_full b e r =
        let k = more_bytes b e in
        let full : n ≡ length out₀ = omega (arith, sofar_length, s.room) in
        let longer : length out₀ < length (hex_reading t).bytes =
        rw (k.1, length-append) (omega (arith, s.count, full)) in
        let none : drop n out₀ ≡ [] = drop_of_length-le out₀ {i = n} (omega (arith, full)) in
        let beyond : drop (length (hex_reading t).bytes) out₀ ≡ [] = drop_of_length-le out₀ {i = length (hex_reading t).bytes} (omega (arith, longer)) in
        let front : take (length out₀) (hex_reading t).bytes ≡ s.done =
        ap (take (length out₀)) k.1 ∙ take_at s.done (b ∷ k.0) (length out₀) (s.count ∙ full) in
        record {
          answer = rw (lt-ltb (length out₀) (length (hex_reading t).bytes) longer);
          output = s.laid ∙ (λ i. s.done ++ none i) ∙ sym (λ i. front i ++ beyond i);
        }

    pub sofar_fault : Fault ≡ mark_at t at x → Decodes t out₀ (Err (NotHex at)) out
    sofar_fault e = let k = looked Fault e in decodes_done (bad at) (ap (λ (r : HexReading). r.bytes) k.2) (ap (λ (r : HexReading). r.stop) k.2)

  pub sofar_end : length t ≤ at → Decodes t out₀ (Ok n) out
  sofar_end l = let k = ended s.fuel l in decodes_done whole (ap (λ (r : HexReading). r.bytes) k) (ap (λ (r : HexReading). r.stop) k)
