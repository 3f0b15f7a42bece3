-- std reads the digits that the definition reads.
use Prim.Native.Nat.{ℕ, ◌<◌}
use mathlib.Core.Path.{sym, ap, subst, ◌∙◌}
use Rattle.std.specs.Prelude.{Option}
use Rattle.std.specs.Char.{digit_value}
use Rattle.std.specs.Option.{SomeIff}
use Rattle.hex_rules.specs.Hex.{byte_of, hex_worth}
use Rattle.hex_text.proofs.Digits.{both_digits, no_first, no_second}
use Rattle.hex_text.proofs.marks.byte_of.Goals as goal

pub returns-in-Some-Some : goal.returns-in-Some-Some
returns-in-Some-Some c =
    let h = c.in-Some-Some.ensures.value in
    let l = c.in-Some-Some.ensures'.value in
    sym (both_digits c.from.result c.from-2.result c.in-Some-Some.high c.in-Some-Some.low h.0 h.1 l.0 l.1)
    ∙ (λ i. byte_of (hex_worth (c.from.ensures i)) (hex_worth (c.from-2.ensures i)))

pub returns-in_default : goal.returns-in_default
returns-in_default c =
    sym (no_second (hex_worth c.args.high) c.from-2.result c.in_default.ensures'.value)
    ∙ ap (λ (x : ℕ). byte_of (hex_worth c.args.high) (hex_worth x)) c.from-2.ensures

pub returns-in_default-2 : goal.returns-in_default-2
returns-in_default-2 c =
    let none = subst (λ (r : Option ℕ). SomeIff r (digit_value c.from.result < 16) (digit_value c.from.result)) c.in_default.is-0 c.to_digit.ensures.value in
    sym (no_first c.from.result (hex_worth c.args.low) none)
    ∙ ap (λ (x : ℕ). byte_of (hex_worth x) (hex_worth c.args.low)) c.from.ensures
