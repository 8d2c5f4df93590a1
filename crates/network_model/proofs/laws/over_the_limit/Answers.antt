use Rattle.network_model.proofs.ClassCount.{over_is_longer}
use Rattle.network_model.proofs.laws.over_the_limit.Goals as goal

pub returns : goal.returns
returns c = over_is_longer
