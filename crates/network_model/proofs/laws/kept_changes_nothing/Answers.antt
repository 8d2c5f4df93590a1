use Rattle.network_model.proofs.RewriteLaws.{rewritten-kept}
use Rattle.network_model.proofs.laws.kept_changes_nothing.Goals as goal

pub returns : goal.returns
returns c = rewritten-kept
