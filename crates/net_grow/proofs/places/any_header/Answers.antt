use Rattle.net_grow.specs.Places.{any_header}
use Rattle.net_grow.proofs.places.any_header.Goals as goal

pub returns : goal.returns
unfolding any_header
returns c = c.all.ensures
