use Rattle.std.proofs.Common.{◌∙◌, ap}
use Rattle.plan_text.specs.PlanText.{plan_text}
use Rattle.atpg.proofs.OutputLemmas.{output_from_plan}
use Rattle.atpg.proofs.run.text_of_plan.Goals as goal

pub returns-in-Ok-clause-ok : goal.returns-in-Ok-clause-ok
returns-in-Ok-clause-ok g c =
    let plan = c.in_ok-plan.ensures.plan in (
      c.in_ok-plan.ensures.well_formed,
      output_from_plan c.args.net c.args.options c.in_ok-plan.plan.plan c.in-Ok.text.items plan.2 plan.3
          (c.in-Ok.ensures ∙ (ap (λ n. plan_text n c.in_ok-plan.plan.hops c.in_ok-plan.plan.plan) plan.0 ∙ ap (λ h. plan_text c.args.net h c.in_ok-plan.plan.plan) plan.1)),
    )
