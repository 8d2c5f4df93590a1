use Rattle.network_model.proofs.CoverLaws.{exercised_covered}
use Rattle.network_model.proofs.laws.exercised_on_probe.Goals as goal

pub returns : goal.returns
returns c net hops plan p rule x = exercised_covered net hops plan.table plan.probes p.table p.probes rule x
