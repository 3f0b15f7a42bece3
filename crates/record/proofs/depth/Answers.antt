use Rattle.record.proofs.depth.Goals as goal

pub returns : goal.returns
returns c = record { told = c.depth_of.ensures.told }
