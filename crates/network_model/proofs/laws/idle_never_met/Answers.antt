use Rattle.network_model.proofs.PlanLaws.{idle_on_none, idle_iff}
use Rattle.network_model.proofs.laws.idle_never_met.Goals as goal

pub returns-clause-absent : goal.returns-clause-absent
returns-clause-absent c net plan rule n idle on = idle_on_none net plan rule idle n on

pub returns-clause-exact : goal.returns-clause-exact
returns-clause-exact c net hops plan p rule = idle_iff net hops plan p.table rule
