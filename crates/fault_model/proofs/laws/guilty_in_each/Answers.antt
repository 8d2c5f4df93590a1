use Rattle.fault_model.proofs.Explained.{guilty_iff}
use Rattle.fault_model.proofs.laws.guilty_in_each.Goals as goal

pub returns : goal.returns
returns c = guilty_iff
