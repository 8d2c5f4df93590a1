use Rattle.fault_model.proofs.Explained.{findings_rise}
use Rattle.fault_model.proofs.laws.findings_in_order.Goals as goal

pub returns-clause-suspects : goal.returns-clause-suspects
returns-clause-suspects c table outcomes = (findings_rise table outcomes).0

pub returns-clause-guilty : goal.returns-clause-guilty
returns-clause-guilty c table outcomes = (findings_rise table outcomes).1
