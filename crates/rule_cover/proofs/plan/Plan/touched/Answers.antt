use Rattle.std.proofs.Common.{subst}
use Rattle.path_table.specs.Touching.{AreTouched}
use Rattle.rule_cover.specs.PlanValue.{PlanValue}
use Rattle.rule_cover.proofs.plan.Plan.touched.Goals as goal

pub returns-clause-touched : goal.returns-clause-touched
returns-clause-touched c = subst (λ (v : PlanValue). AreTouched v.net v.hops v.touched) c.self.view_is c.self.invariant.touched_are
