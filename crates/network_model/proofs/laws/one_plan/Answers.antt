use Rattle.network_model.proofs.PlanLaws.{same_plans}
use Rattle.network_model.proofs.laws.one_plan.Goals as goal

pub returns : goal.returns
returns c = same_plans
