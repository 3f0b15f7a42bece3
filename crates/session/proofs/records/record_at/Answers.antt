-- Each test of the code is a premise of what 01 gives there.
use Prim.Native.Nat.{◌+◌}
use mathlib.Core.Path.{sym, ap, subst, ◌∙◌}
use native.Mathlib.Omega.{arith}
use Rattle.file_rules.specs.Item.{Got}
use Rattle.file_rules.specs.File.{length_of}
use Rattle.file_rules.specs.Laws.{Known, ended, half_length, short_body, length_zero, unknown, length_wrong, event}
use Rattle.file_rules.proofs.Lengths.{length_known, zero_unknown}
use Rattle.file_rules.proofs.Given.{record_given}
use Rattle.kinds.proofs.Unique.{has_length}
use Rattle.session.proofs.records.record_at.Goals as goal

pub returns-then-s-at : goal.returns-then-s-at
returns-then-s-at c = sym (record_given _ _ _ (ended c.if-s-at.true))

pub returns-then-left-lt2 : goal.returns-then-left-lt2
returns-then-left-lt2 c = sym (record_given _ _ _ (half_length c.if-s-at.false (omega (arith, c.if-s-at.false, c.if-left-lt2.true))))

pub returns-then-left-n : goal.returns-then-left-n
returns-then-left-n c =
    let w = c.from-n.ensures ∙ c.word_at.ensures in
    let one = c.if-s-at.false in
    let two = c.if-left-lt2.false in
    sym (record_given _ _ _ (short_body (omega (arith, one, two)) (omega (arith, one, two, w, c.if-left-n.true))))

pub returns-then-n-eq0 : goal.returns-then-n-eq0
returns-then-n-eq0 c =
    let w = c.from-n.ensures ∙ c.word_at.ensures in
    let one = c.if-s-at.false in
    let two = c.if-left-lt2.false in
    sym (record_given _ _ _ (length_zero (omega (arith, one, two, w, c.if-left-n.false)) (sym w ∙ c.if-n-eq0.true)))

pub returns-in_default : goal.returns-in_default
returns-in_default c =
    let w = c.from-n.ensures ∙ c.word_at.ensures in
    let one = c.if-s-at.false in
    let two = c.if-left-lt2.false in
    let none = sym (ap length_of c.byte_at.ensures.0) ∙ c.in_default.ensures in
    sym (record_given _ _ _ (unknown (omega (arith, one, two, w, c.if-left-n.false)) (λ z. c.if-n-eq0.false (w ∙ z)) (zero_unknown _ none)))

pub returns-then-n-length : goal.returns-then-n-length
returns-then-n-length c =
    let w = c.from-n.ensures ∙ c.word_at.ensures in
    let one = c.if-s-at.false in
    let two = c.if-left-lt2.false in
    let kind = c.in-Ok.ensures ∙ c.byte_at.ensures.0 in
    let length = c.length.ensures.told ∙ ap length_of kind in
    let known = length_known _ (λ z. has_length _ (ap length_of kind ∙ z)) in
    sym (record_given _ _ _ (length_wrong _ (omega (arith, one, two, w, c.if-left-n.false)) (λ z. c.if-n-eq0.false (w ∙ z)) known (λ h. c.if-n-length.true (w ∙ h ∙ sym length))))

pub event_at-requires : goal.event_at-requires
event_at-requires c =
    let w = c.from-n.ensures ∙ c.word_at.ensures in
    let one = c.if-s-at.false in
    let two = c.if-left-lt2.false in
    let length = c.if-n-length.false ∙ c.length.ensures.told in
    (c.in-Ok.ensures ∙ c.byte_at.ensures.0, omega (arith, one, two, w, c.if-left-n.false, length))

pub returns : goal.returns
returns c =
    let w = c.from-n.ensures ∙ c.word_at.ensures in
    let one = c.if-s-at.false in
    let two = c.if-left-lt2.false in
    let kind = c.in-Ok.ensures ∙ c.byte_at.ensures.0 in
    let same = sym (ap length_of kind) ∙ sym c.length.ensures.told ∙ sym c.if-n-length.false ∙ w in
    let known = length_known _ (λ z. has_length _ (ap length_of kind ∙ z)) in
    (λ i. Got (c.event_at.ensures i) (c.args.at + 2 + w i))
    ∙ sym (record_given _ _ _ (event (omega (arith, one, two, w, c.if-left-n.false)) (subst (Known _) same known)))
