use Rattle.std.proofs.Common.{◌≡◌, length, Some, sym, ap, ◌∙◌, subst, List}
use Rattle.network_model.specs.Table.{Entry}
use Rattle.network_model.specs.WellFormed.{IsWellFormed}
use Rattle.network_model.specs.Network.{Network}
use Rattle.network_model.specs.Cover.{entry_at}
use Rattle.path_table.specs.Entries.{entry_of}
use Rattle.probe_agents.proofs.Fields.{least_wide}
use Rattle.probe_agents.proofs.firing.fire_one.Goals as goal

pub prove_eq-unreachable-requires : goal.prove_eq-unreachable-requires
prove_eq-unreachable-requires g c =
    let plan = c.args.plan.now in
    let own : c.deref.result.now ≡ plan.net = c.deref.ensures ∙ c.net.ensures.net in
    let fits : IsWellFormed plan.net = subst IsWellFormed own c.bits-2.ensures.well_formed in
    let here : entry_at plan.plan.table c.args.entry ≡ Some (entry_of c.in-Some.row.now) = ap (λ (table : List Entry). entry_at table c.args.entry) (sym c.table.ensures.table) ∙ sym c.in-Some.ensures in
    let wide : length c.in-Some.row.now.least ≡ plan.net.width = least_wide plan.net plan.hops plan.plan.table c.args.entry (entry_of c.in-Some.row.now) c.table.ensures.is_plan.table fits here in
    c.if-prove_eq.true (c.bits.ensures.width ∙ wide ∙ sym (c.bits-2.ensures.width ∙ ap (λ (n : Network). n.width) own))
