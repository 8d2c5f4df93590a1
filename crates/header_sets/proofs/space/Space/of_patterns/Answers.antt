use Rattle.header_sets.proofs.space.Space.of_patterns.Goals as goal

pub invariant_of-result : goal.invariant_of-result
invariant_of-result c = record { range = c.requires.range; widths = c.loop-p.invariant.1 }
