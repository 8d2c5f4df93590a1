use Rattle.std.proofs.Common.{◌∙◌}
use Rattle.trial_run.proofs.Steps.{probes_inside}
use Rattle.trial_run.proofs.following.send_probes.Goals as goal

pub send_all-requires-clause-inside : goal.send_all-requires-clause-inside
send_all-requires-clause-inside g c κs within =
    probes_inside c.args.plan.now c.deref.result.now c.hops-hops.ensures.is_plan (c.deref.ensures.value ∙ c.in_ok-probes.ensures)
