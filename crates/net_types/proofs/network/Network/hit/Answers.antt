use Rattle.std.proofs.Common.{◌≡◌, ap, sym, ◌∙◌, Some, None}
use Rattle.std.specs.Option.{option_map}
use Rattle.network_model.specs.Network.{value_at}
use Rattle.network_model.specs.WellFormed.{FitsRule}
use Rattle.net_types.specs.declared.rule.Rule.{Rule}
use Rattle.net_types.specs.Rules.{model_of, numbered}
use Rattle.net_types.specs.Tables.{takes_packet}
use Rattle.net_types.proofs.Boxes.{hit_nowhere, found_in_box, found_fits}
use Rattle.net_types.proofs.network.Network.hit.Goals as goal

-- a port of no box
pub returns-in_err-at-clause-rule : goal.returns-in_err-at-clause-rule
returns-in_err-at-clause-rule c =
    let nowhere : value_at c.args.self.now.ports c.args.port ≡ None = sym c.box_of.ensures ∙ c.in_err-at.was in
    rw c.from_residual.ensures (sym (hit_nowhere c.args.self.now c.args.port c.args.header.now nowhere))

pub returns-clause-rule : goal.returns-clause-rule
returns-clause-rule c =
    let here : value_at c.args.self.now.ports c.args.port ≡ Some c.in_ok-at.«at» = sym c.box_of.ensures ∙ c.in_ok-at.was in
    ap (option_map numbered) c.first_taking.ensures
    ∙ found_in_box c.args.self.now c.args.port c.args.header.now c.in_ok-at.«at» c.rules_at.result.now here (λ r contained. (c.rules_at.ensures.all r).0 contained)
    ∙ sym (c.rules_at.ensures.first c.args.port c.args.header.now here)

pub returns-clause-fits : goal.returns-clause-fits
returns-clause-fits c =
    found_fits (λ (r : Rule). FitsRule c.args.self.now (model_of r)) (takes_packet c.args.port c.args.header.now) c.rules_at.result.now _ c.rules_at.ensures.fit c.first_taking.ensures

pub first_taking-requires : goal.first_taking-requires
first_taking-requires c k d below = (c.rules_at.ensures.fit k d below).pattern ∙ sym c.requires
