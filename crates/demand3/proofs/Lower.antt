-- Two events that differ only in a fitted code or a size code are one event to every rule but the size's.
use Prim.Native.Nat.{ℕ, ◌+◌, ◌/◌, ◌%◌, ◌≤◌}
use mathlib.Core.Path.{◌≡◌, refl, sym, ap, ◌∙◌}
use mathlib.Core.Bool.{Bool, true, false, cond, ◌&&◌}
use mathlib.Core.List.{List}
use native.Mathlib.Nat.{le_refl}
use lib.Dec.{eqb}
use Rattle.rules.specs.declared.Size.{Size}
use Rattle.rules.specs.declared.Core.{Core}
use Rattle.rules.specs.declared.Event.{Event}
use Rattle.rules.specs.declared.Event.TheVariants.{PowerUp as power_up, Write as write, Read as read, Signal as signal}
use Rattle.rules.specs.Bits.{bit}
use Rattle.rules.specs.Writes.{load_kept, load_asked, buffer_of, write_buffer, on_write}
use Rattle.rules.specs.Play.{play}
use Rattle.rules.specs.Size.{initialises, code_of, size_after}
use Rattle.rules.specs.Interrupt.{request_held}
use Rattle.rules.specs.Laws.Sizes.{◌⊑◌}
use Rattle.demand3.specs.Demand3.{NeverLower, same, deeper, larger}
use Rattle.rules.proofs.Masks.{bit_shift}

-- a bit from 4 up is a bit of v over 16
high_bit : (v v' : ℕ) → v / 16 ≡ v' / 16 → (k : ℕ) → bit (4 + k) v ≡ bit (4 + k) v'
high_bit v v' h k = bit_shift 4 k v ∙ ap (bit k) h ∙ sym (bit_shift 4 k v')

buffer_same : (c : Core) (buf : List ℕ) (v v' : ℕ) → v / 16 ≡ v' / 16 → write_buffer c buf v ≡ write_buffer c buf v'
unfolding write_buffer buffer_of load_asked load_kept
buffer_same c buf v v' h = let d = high_bit v v' h in rw (d 0, d 1, d 3, d 4, d 5, d 7, d 12, d 13)

cond_mono : (t : Bool) {m n m' n' : ℕ} → m ≤ m' → n ≤ n' → cond t m n ≤ cond t m' n'
cond_mono true h k = h
cond_mono false h k = k

pub record OneToRules (e e' : Event) : Type 0 where
  pub plays : (c : Core) (buf : List ℕ) (full : Bool) → play c buf full e ≡ play c buf full e'
  pub initial : initialises e ≡ initialises e'
  pub held : (q : Bool) → request_held q e ≡ request_held q e'
  pub sizes : (s t : Size) → s ⊑ t → size_after s e ⊑ size_after t e'

sizes_same : (e : Event) (s t : Size) → s ⊑ t → size_after s e ⊑ size_after t e
unfolding size_after code_of
sizes_same (power_up x) s t h = record { fitted = le_refl x.fitted; code = le_refl 15 }
sizes_same (write o v) s t h =
    record { fitted = h.fitted; code = cond_mono (eqb o 0x0C) (le_refl (v % 16)) (cond_mono (eqb o 0x00 && bit 15 v) (le_refl 15) h.code) }
sizes_same (read o) s t h = h
sizes_same (signal x) s t h = h

pub one_to_rules : {e e' : Event} → NeverLower e e' → OneToRules e e'
unfolding play on_write initialises request_held size_after code_of
one_to_rules (same e) = record { plays = λ c buf full. refl; initial = refl; held = λ q. refl; sizes = sizes_same e }
one_to_rules (deeper x d h) =
    record { plays = λ c buf full. refl; initial = refl; held = λ q. refl; sizes = λ s t k. record { fitted = h; code = le_refl 15 } }
one_to_rules (larger v v' h l) =
    record {
      plays = λ c buf full. buffer_same c buf v v' h;
      initial = refl;
      held = λ q. refl;
      sizes = λ s t k. record { fitted = k.fitted; code = l };
    }
