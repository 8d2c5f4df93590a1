use Rattle.std.proofs.Common.{◌<◌, ◌∙◌, length, sym, subst}
use Rattle.std.proofs.lemmas.Result.{err_from_is_err_and}
use Rattle.std.specs.Arc.{arc_value}
use Rattle.network_model.specs.WellFormed.{IsWellFormed}
use Rattle.network_model.proofs.SomeTable.{table_of}
use Rattle.network_model.proofs.ClassCount.{over_is_longer}
use Rattle.class_tree.proofs.Faults.{handed_on}
use Rattle.plan_build.proofs.planner.WavePlannerPlanner.plan.Goals as goal

pub plan_from-requires-sync-R : goal.plan_from-requires-sync-R
plan_from-requires-sync-R g c κs within = record { shared = c.requires.shared }

-- the table has more entries than the limit
pub returns-in_err-plan-clause-full : goal.returns-in_err-plan-clause-full
returns-in_err-plan-clause-full g c most h =
    let net = arc_value c.args.net in
    let p = err_from_is_err_and c.from_residual.result c.from_residual.ensures.1 in
    let over = c.in_err-plan.ensures.full most (handed_on c.from_residual.result c.in_err-plan.field-0.0 p.0 _ p.1 p.2 h) in
    let table = table_of net c.args.hops (subst IsWellFormed c.deref.ensures c.bits-bits.ensures.well_formed) in
    (over.0 ∙ c.self.view_is, (table.0, table.1, subst (λ n. n < length table.0) (sym over.0) ((over_is_longer net c.args.hops c.self.inside.limit table.0 table.1).0 over.1)))
