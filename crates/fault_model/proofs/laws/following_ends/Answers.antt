use Rattle.fault_model.proofs.Different.{follow_outcomes, follow_begins}
use Rattle.fault_model.proofs.Telling.{follow_ends}
use Rattle.fault_model.proofs.laws.following_ends.Goals as goal

pub returns-clause-different : goal.returns-clause-different
returns-clause-different c = follow_outcomes

pub returns-clause-probes : goal.returns-clause-probes
returns-clause-probes c = follow_begins

pub returns-clause-ends : goal.returns-clause-ends
returns-clause-ends c = follow_ends
