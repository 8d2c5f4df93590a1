use Rattle.header_sets.specs.Spaces.{holds, hulls}
use Rattle.header_sets.proofs.Pieces.{hulls_have}
use Rattle.header_sets.proofs.space.Space.hull_count.Goals as goal

pub returns-clause-has : goal.returns-clause-has
unfolding holds hulls
returns-clause-has c h held = hulls_have c.args.self.now.pieces h held
