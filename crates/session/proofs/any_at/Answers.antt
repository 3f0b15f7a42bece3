use Prim.Native.Nat.{ℕ}
use mathlib.Core.Path.{◌≡◌, sym, ap, ◌∙◌}
use native.Mathlib.Omega.{arith}
use Rattle.std.specs.Prelude.{Option, unwrap_or}
use Rattle.file_rules.specs.File.{item_at}
use Rattle.file_rules.proofs.Given.{item_later}
use Rattle.session.proofs.Opening.{first_byte, not_opened, opened}
use Rattle.session.proofs.any_at.Goals as goal

pub returns-then-at-gt0 : goal.returns-then-at-gt0
returns-then-at-gt0 c = c.record_at.ensures ∙ sym (item_later _ _ (λ z. absurd (omega (arith, c.if-at-gt0.true, z))))

pub returns-then-not-opened : goal.returns-then-not-opened
returns-then-not-opened c =
    let a = c.args in
    let start : a.at ≡ 0 = omega (arith, c.if-at-gt0.false) in
    let first = c.unwrap_or-first.ensures ∙ ap (λ (o : Option ℕ). unwrap_or o 0) (c.copied.ensures ∙ c.first.ensures.value) ∙ first_byte a.s.now in
    sym (ap (item_at a.s.now) start ∙ not_opened a.s.now (λ h. c.if-not-opened.true (first ∙ h)))

pub returns : goal.returns
returns c =
    let a = c.args in
    let start : a.at ≡ 0 = omega (arith, c.if-at-gt0.false) in
    let first = c.unwrap_or-first.ensures ∙ ap (λ (o : Option ℕ). unwrap_or o 0) (c.copied.ensures ∙ c.first.ensures.value) ∙ first_byte a.s.now in
    c.record_at-2.ensures ∙ sym (ap (item_at a.s.now) start ∙ opened a.s.now (sym first ∙ c.if-not-opened.false))
