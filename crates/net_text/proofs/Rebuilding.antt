-- A well-formed network's declarations, taken in order from the empty network, give it back.
use Rattle.std.proofs.Common.{map}
use Rattle.network_model.specs.Network.{Network}
use Rattle.network_model.specs.Building.{empty}
use Rattle.network_model.specs.WellFormed.{IsWellFormed}
use Rattle.net_types.specs.Parts.{IsWithin}
use Rattle.net_text.specs.Printing.{declared_by}
use Rattle.net_text.proofs.Takes.{TakesAll, TakesAll-append}
use Rattle.net_text.proofs.RebuiltPlaces.{boxes_so_far, boxes_taken, ports_so_far, ports_taken}
use Rattle.net_text.proofs.RebuiltLinks.{links_so_far, links_taken}
use Rattle.net_text.proofs.RebuiltTerminals.{terminals_so_far, bare, cleared, terminals_taken, permits_taken, forbids_taken}
use Rattle.net_text.proofs.RebuiltRules.{rules_taken}

pub declared_by-taken : (net : Network) → IsWellFormed net → IsWithin net → TakesAll (empty net.width) (declared_by net) net
declared_by-taken net formed within =
    let rules = rules_taken net formed within in
    let forbids = TakesAll-append _ (terminals_so_far net net.terminals) net _ _ (forbids_taken net formed within) rules in
    let permits = TakesAll-append _ (terminals_so_far net (map cleared net.terminals)) net _ _ (permits_taken net formed within) forbids in
    let terminals = TakesAll-append _ (terminals_so_far net (map bare net.terminals)) net _ _ (terminals_taken net formed within) permits in
    let links = TakesAll-append _ (links_so_far net net.links) net _ _ (links_taken net formed) terminals in
    let ports = TakesAll-append _ (ports_so_far net net.ports) net _ _ (ports_taken net formed within) links in
    TakesAll-append _ (boxes_so_far net net.boxes) net _ _ (boxes_taken net formed within) ports
