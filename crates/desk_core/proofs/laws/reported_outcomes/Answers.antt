use Rattle.desk_core.proofs.Witnessed.{witnessed}
use Rattle.desk_core.proofs.Reported.{report_located, report_closed}
use Rattle.desk_core.proofs.laws.reported_outcomes.Goals as goal

pub returns-clause-counted : goal.returns-clause-counted
returns-clause-counted c = witnessed

pub returns-clause-located : goal.returns-clause-located
returns-clause-located c = report_located

pub returns-clause-closed : goal.returns-clause-closed
returns-clause-closed c = report_closed
