use Rattle.net_grow.specs.Rules.{as_it_is}
use Rattle.net_grow.proofs.letters.as_it_is.Goals as goal

pub returns : goal.returns
unfolding as_it_is
returns c = c.keep.ensures
