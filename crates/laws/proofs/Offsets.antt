-- A write goes by its offset: what holds of the rule at each offset holds of the write.
use Prim.Native.Nat.{ℕ}
use mathlib.Core.Path.{◌≡◌}
use mathlib.Core.Bool.{Bool}
use mathlib.Core.List.{List}
use borrow.Author.Tests.{eqb-true}
use lib.Dec.{eqb}
use Rattle.laws.specs.Types.{Core}
use Rattle.rules.specs.Bits.{bit}
use Rattle.rules.specs.Clocks.{Play}
use Rattle.rules.specs.Writes.{initialised, write_control, write_mask, write_rate, write_adjust, write_buffer, write_data, on_write}
use Rattle.rules.proofs.Choice.{cases}

pub write_cases {κ} : (P : Play → Type κ) (c : Core) (buf : List ℕ) (full : Bool) (o v : ℕ)
    → (o ≡ 0x00 → P (initialised c.options))
    → (o ≡ 0x00 → P (write_control c v))
    → (o ≡ 0x04 → P (write_mask c v))
    → (o ≡ 0x08 → P (write_rate c v))
    → (o ≡ 0x0C → P (write_buffer c buf v))
    → (o ≡ 0x18 → P (write_data c full v))
    → P (write_adjust c v)
    → P (on_write c buf full o v)
unfolding on_write
write_cases P c buf full o v initial control mask rate buffer load adjust =
    cases P (eqb o 0x00) (λ e. cases P (bit 15 v) (λ _. initial (eqb-true _ _ e)) (λ _. control (eqb-true _ _ e))) (λ _.
    cases P (eqb o 0x04) (λ e. mask (eqb-true _ _ e)) (λ _.
    cases P (eqb o 0x08) (λ e. rate (eqb-true _ _ e)) (λ _.
    cases P (eqb o 0x0C) (λ e. buffer (eqb-true _ _ e)) (λ _.
    cases P (eqb o 0x18) (λ e. load (eqb-true _ _ e)) (λ _. adjust)))))
