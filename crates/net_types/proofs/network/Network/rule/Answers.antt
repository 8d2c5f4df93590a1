use Rattle.std.proofs.Common.{◌≡◌, Some, None, sym, ap, ◌∙◌}
use Rattle.std.specs.List.{slice_get}
use Rattle.std.specs.Option.{option_copied}
use Rattle.net_types.specs.Rules.{numbered}
use Rattle.net_types.specs.Tables.{at_places}
use Rattle.net_types.proofs.Lookups.{rule_looked_up, got_item}
use Rattle.net_types.proofs.Rows.{rises_rows}
use Rattle.net_types.proofs.Placed.{rule_by_row, rows_rise}
use Rattle.net_types.proofs.network.Network.rule.Goals as goal

pub row_of-requires : goal.row_of-requires
row_of-requires c = rw c.deref.ensures.value
    (rows_rise c.self.inside.rules.items c.self.inside.places.items c.self.invariant.placed (rises_rows numbered (at_places c.self.inside.rules.items c.self.inside.places.items) c.self.invariant.well_formed.rules))

pub returns-in_err-row : goal.returns-in_err-row
returns-in_err-row c =
    let row = rw (c.deref.ensures.value, c.get.ensures) at c.row_of.ensures in
    rw (c.from_residual.ensures, ← c.self.view_is)
    (rule_looked_up (at_places c.self.inside.rules.items c.self.inside.places.items) c.args.id None
    (rule_by_row c.self.inside.rules.items c.self.inside.places.items c.args.id None c.self.invariant.placed (sym (ap option_copied c.in_err-row.was) ∙ row)))

pub returns : goal.returns
returns c =
    let row = rw (c.deref.ensures.value, c.get.ensures) at c.row_of.ensures in
    let got : option_copied c.get-2.result ≡ slice_get c.deref-2.result.now c.in_ok-row.row.now.place = got_item _ _ _ c.get-2.ensures.lookup in
    rw (← c.self.view_is)
    (rule_looked_up (at_places c.self.inside.rules.items c.self.inside.places.items) c.args.id (option_copied c.get-2.result)
    (got ∙ ap (λ l. slice_get l c.in_ok-row.row.now.place) c.deref-2.ensures.value
    ∙ rule_by_row c.self.inside.rules.items c.self.inside.places.items c.args.id (Some c.in_ok-row.row.now) c.self.invariant.placed (sym (ap option_copied c.in_ok-row.was) ∙ row)))
