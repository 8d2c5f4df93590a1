use Rattle.std.proofs.Common.{◌≡◌, ◌∙◌, sym, subst}
use Rattle.std.specs.Result.{IfOk}
use Rattle.network_model.specs.WellFormed.{IsWellFormed}
use Rattle.network_model.specs.Within.{IsWithin}
use Rattle.net_types.proofs.Steps.{listed}
use Rattle.net_types.proofs.builder.NetBuilder.finish.Goals as goal

pub assemble-requires-clause-well_formed : goal.assemble-requires-clause-well_formed
assemble-requires-clause-well_formed c =
    let is = listed c.self.inside c.in_ok-listed_boxes.field-0 c.in_ok-listed_ports.field-0 c.in_ok-listed_links.field-0
    c.in_ok-listed_terminals.field-0 c.in_ok-rules.rules c.self.invariant c.in_ok-listed_boxes.ensures c.in_ok-listed_ports.ensures
    c.in_ok-listed_links.ensures c.in_ok-listed_terminals.ensures c.in_ok-rules.ensures in
    subst IsWellFormed (sym is) c.self.invariant.well_formed

pub assemble-requires-clause-within : goal.assemble-requires-clause-within
assemble-requires-clause-within c =
    let is = listed c.self.inside c.in_ok-listed_boxes.field-0 c.in_ok-listed_ports.field-0 c.in_ok-listed_links.field-0
    c.in_ok-listed_terminals.field-0 c.in_ok-rules.rules c.self.invariant c.in_ok-listed_boxes.ensures c.in_ok-listed_ports.ensures
    c.in_ok-listed_links.ensures c.in_ok-listed_terminals.ensures c.in_ok-rules.ensures in
    subst IsWithin (sym is) c.self.invariant.within

pub returns : goal.returns
returns c =
    let is = listed c.self.inside c.in_ok-listed_boxes.field-0 c.in_ok-listed_ports.field-0 c.in_ok-listed_links.field-0
    c.in_ok-listed_terminals.field-0 c.in_ok-rules.rules c.self.invariant c.in_ok-listed_boxes.ensures c.in_ok-listed_ports.ensures
    c.in_ok-listed_links.ensures c.in_ok-listed_terminals.ensures c.in_ok-rules.ensures in
    subst (λ n. IfOk c.assemble.result (λ net. net ≡ n)) (is ∙ c.self.view_is) c.assemble.ensures
