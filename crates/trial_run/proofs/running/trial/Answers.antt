use Rattle.std.specs.Arc.{arc_value}
use Rattle.trial_run.proofs.Steps.{none_left}
use Rattle.trial_run.proofs.running.trial.Goals as goal

pub returns-clause-none_left : goal.returns-clause-none_left
returns-clause-none_left g c =
    let plan = arc_value c.in_ok-plan.plan in
    none_left plan.net plan.hops plan.plan c.args.bad.now c.in_ok-sent.report c.in_ok-sent.ensures.report
