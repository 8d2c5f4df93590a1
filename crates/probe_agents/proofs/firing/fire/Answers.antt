use Rattle.std.proofs.Common.{arith}
use Rattle.network_model.specs.Cover.{entry_at}
use Rattle.probe_agents.proofs.Kept.{kept_either, rose_faulted}
use Rattle.probe_agents.proofs.Fields.{field_shot}
use Rattle.probe_agents.proofs.firing.fire.Goals as goal

pub returns-clause-kept : goal.returns-clause-kept
returns-clause-kept g c = kept_either c.args.id c.args.entry _ _ (entry_at c.args.plan.now.plan.table c.args.entry) c.fire_one.result c.fire_one.ensures.fires c.fire_one.ensures.gives_up

pub returns-clause-faulted : goal.returns-clause-faulted
returns-clause-faulted g c = rose_faulted c.args.id c.args.entry _ _ (entry_at c.args.plan.now.plan.table c.args.entry) c.fire_one.result c.fire_one.ensures.fires

pub returns-clause-field : goal.returns-clause-field
returns-clause-field g c = λ bad tells.
    field_shot c.args.plan.now.net c.args.plan.now.hops bad c.args.plan.now.plan c.args.id c.args.entry _ _ c.fire_one.result c.fire_one.ensures.plan c.fire_one.ensures.well_formed
    (omega arith) (omega arith) (omega arith) tells c.fire_one.ensures.fires
