use Rattle.fault_model.proofs.Followed.{follow_guilty}
use Rattle.fault_model.proofs.laws.guilty_are_bad.Goals as goal

pub returns : goal.returns
returns c = follow_guilty
