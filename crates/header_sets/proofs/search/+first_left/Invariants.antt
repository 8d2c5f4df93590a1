use Rattle.header_sets.specs.Search.{free_places}
use Rattle.header_sets.proofs.search.+first_left.Given as goal

abbrev pub decreases-first_left : goal.decreases-first_left
decreases-first_left l = free_places l.pattern.now
