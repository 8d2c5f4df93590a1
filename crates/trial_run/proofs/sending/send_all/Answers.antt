use Rattle.trial_run.proofs.Fields.{all_sure}
use Rattle.trial_run.proofs.sending.send_all.Goals as goal

pub returns : goal.returns
returns g c =
    all_sure c.args.plan.now.net c.args.plan.now.hops c.args.bad.now c.args.plan.now.plan.table c.args.entries.now c.in_ok-fields.fields.items c.fire_all.new.links.items c.fire_all.result
    c.in_ok-fields.ensures.fields c.fire_all.ensures.faulted c.fire_all.ensures.fields
