use Rattle.fault_model.proofs.Followed.{follow_explained}
use Rattle.fault_model.proofs.laws.bad_rules_explain.Goals as goal

pub returns : goal.returns
returns c = follow_explained
