-- Each test of the code is one of the definition, in its order.
use mathlib.Core.Path.{sym, ◌∙◌}
use Rattle.hex_rules.specs.Hex.{mark_of}
use Rattle.hex_text.proofs.marks.mark_of.Goals as goal

pub returns-then-is_control : goal.returns-then-is_control
unfolding mark_of
returns-then-is_control c = rw (sym c.is_control.ensures ∙ c.if-is_control.true)

pub returns-then-in_comment : goal.returns-then-in_comment
unfolding mark_of
returns-then-in_comment c =
    rw (sym c.is_control.ensures ∙ c.if-is_control.false, sym c.in_comment.ensures ∙ c.if-in_comment.true)

pub returns-then-is_blank : goal.returns-then-is_blank
unfolding mark_of
returns-then-is_blank c =
    rw (
      sym c.is_control.ensures ∙ c.if-is_control.false,
      sym c.in_comment.ensures ∙ c.if-in_comment.false,
      sym c.is_blank.ensures ∙ c.if-is_blank.true,
    )

pub returns : goal.returns
unfolding mark_of
returns c =
    rw (
      sym c.is_control.ensures ∙ c.if-is_control.false,
      sym c.in_comment.ensures ∙ c.if-in_comment.false,
      sym c.is_blank.ensures ∙ c.if-is_blank.false,
    )
    c.byte_of.ensures
