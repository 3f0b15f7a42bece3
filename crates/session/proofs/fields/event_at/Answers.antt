-- Each arm reads the fields of its kind, which are in the file by the length of that kind.
use mathlib.Core.Path.{sym, ap, ◌∙◌}
use native.Mathlib.Omega.{arith}
use Rattle.rules.specs.declared.Event.TheVariants.{PowerUp as power_up, Write as write, Read as read}
use Rattle.file_rules.specs.File.{length_of}
use Rattle.kinds.specs.declared.Kind.TheVariants.{PowerUp, Write, Read, Signal}
use Rattle.kinds.specs.declared.Kind.{Kind}
use Rattle.kinds.specs.Numbers.{kind_number}
use Rattle.session.proofs.Events.{event_told}
use Rattle.session.proofs.fields.event_at.Goals as goal

pub settings_at-requires : goal.settings_at-requires
unfolding length_of
settings_at-requires c = omega (arith, ap (λ (k : Kind). length_of (kind_number k)) c.in-PowerUp.is, c.requires.1)

pub byte_at-requires : goal.byte_at-requires
unfolding length_of
byte_at-requires c = omega (arith, ap (λ (k : Kind). length_of (kind_number k)) c.in-Write.is, c.requires.1)

pub quad_at-requires : goal.quad_at-requires
unfolding length_of
quad_at-requires c = omega (arith, ap (λ (k : Kind). length_of (kind_number k)) c.in-Write.is, c.requires.1)

pub byte_at-requires-in-Read : goal.byte_at-requires-in-Read
unfolding length_of
byte_at-requires-in-Read c = omega (arith, ap (λ (k : Kind). length_of (kind_number k)) c.in-Read.is, c.requires.1)

pub returns-in-PowerUp : goal.returns-in-PowerUp
returns-in-PowerUp c =
    ap power_up c.settings_at.ensures ∙ sym (event_told _ _ PowerUp (ap kind_number (sym c.in-PowerUp.is) ∙ c.requires.0))

pub returns-in-Write : goal.returns-in-Write
returns-in-Write c =
    (λ i. write (c.byte_at.ensures.0 i) (c.quad_at.ensures i))
    ∙ sym (event_told _ _ Write (ap kind_number (sym c.in-Write.is) ∙ c.requires.0))

pub returns-in-Read : goal.returns-in-Read
returns-in-Read c =
    ap read c.byte_at-in-Read.ensures.0 ∙ sym (event_told _ _ Read (ap kind_number (sym c.in-Read.is) ∙ c.requires.0))

pub returns-in-Signal : goal.returns-in-Signal
returns-in-Signal c =
    sym (event_told _ _ (Signal c.in-Signal.signal) (ap kind_number (sym c.in-Signal.is) ∙ c.requires.0))
