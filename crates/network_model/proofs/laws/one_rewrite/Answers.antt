use Rattle.network_model.proofs.RewriteLaws.{rewritten-composed}
use Rattle.network_model.proofs.laws.one_rewrite.Goals as goal

pub returns : goal.returns
returns c = rewritten-composed
