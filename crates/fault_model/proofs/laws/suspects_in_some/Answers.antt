use Rattle.fault_model.proofs.Explained.{suspect_iff}
use Rattle.fault_model.proofs.laws.suspects_in_some.Goals as goal

pub returns : goal.returns
returns c = suspect_iff
