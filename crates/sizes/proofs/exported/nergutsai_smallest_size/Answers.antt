use Rattle.sizes.proofs.exported.nergutsai_smallest_size.Goals as goal

pub returns-in-Ok : goal.returns-in-Ok
returns-in-Ok c = let t = c.in-Ok.ensures in record { refusal = t.refusal; code = t.code; memory = t.memory }
