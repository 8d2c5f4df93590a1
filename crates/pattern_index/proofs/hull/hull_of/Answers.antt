use Rattle.pattern_index.proofs.Hulls.{within_all}
use Rattle.pattern_index.proofs.hull.hull_of.Goals as goal

pub returns-else-has_all-clause-within : goal.returns-else-has_all-clause-within
returns-else-has_all-clause-within c k d inside = rw c.all.ensures (within_all _ c.args.bits (c.requires.widths k d inside))
