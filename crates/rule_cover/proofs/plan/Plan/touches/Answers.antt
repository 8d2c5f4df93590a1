use Rattle.std.proofs.Common.{◌≡◌, ◌↔◌, true, subst}
use Rattle.network_model.specs.Prefixes.{Touches}
use Rattle.rule_cover.specs.PlanValue.{PlanValue}
use Rattle.rule_cover.proofs.plan.Plan.touches.Goals as goal

pub returns-clause-touches : goal.returns-clause-touches
returns-clause-touches c =
    let known = c.self.invariant.touched_are c.args.t c.args.b in
    let told = c.has.ensures in
    subst (λ (v : PlanValue). (c.has.result ≡ true) ↔ Touches v.net v.hops c.args.t c.args.b) c.self.view_is
    (λ yes. known.0 (told.0 yes), λ there. told.1 (known.1 there))
