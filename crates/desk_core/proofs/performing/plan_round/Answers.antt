use Rattle.std.specs.Prelude.{◌≡◌}
use Rattle.std.specs.Arc.{arc_value}
use Rattle.std.proofs.Common.{sym, subst, refl}
use Rattle.rule_cover.specs.PlanValue.{PlanValue}
use Rattle.desk_core.specs.declared.reply.Reply.TheVariants.{Pinned}
use Rattle.desk_core.specs.Performing.{IsPlanFor}
use Rattle.desk_core.proofs.performing.plan_round.Goals as goal

pub returns-in-Posted-clause-performed : goal.returns-in-Posted-clause-performed
returns-in-Posted-clause-performed g c =
    let same : arc_value c.in-Ok-new.plan ≡ c.in-Ok.plan = c.in-Ok-new.ensures.ok in
    let P : PlanValue → Type 0 = λ p. IsPlanFor (arc_value c.in-Pinned.net) c.args.hops (g.P.Planner.limit c.args.planner.now) p in
    let plan : P c.in-Ok.plan = record { net_is = c.in-Ok.ensures.net; hops_are = c.in-Ok.ensures.hops; within = c.in-Ok.ensures.within } in (
      Pinned c.in-Pinned.version c.in-Pinned.net,
      c.ask.new.self,
      c.in-Pinned.ensures.asked,
      (refl, refl, subst P (sym same) plan, (c.in-Posted.entries, c.in-Ok-clone.posted, c.in-Ok-clone.ensures.cases, c.in-Posted.ensures.asked)),
    )
