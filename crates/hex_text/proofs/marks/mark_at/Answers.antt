-- The character at the place and the one after it are those of the definition.
use Rattle.hex_text.proofs.marks.mark_at.Goals as goal

pub returns : goal.returns
returns c = rw (← c.char_at.ensures, ← c.char_at-2.ensures) c.mark_of.ensures
