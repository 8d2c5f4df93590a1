use Rattle.std.proofs.Common.{◌≡◌, sym, ap, ◌∙◌}
use Rattle.std.specs.List.{slice_get}
use Rattle.std.specs.Option.{option_copied, option_map, option_and_then}
use Rattle.net_types.specs.declared.network.RulePlace.{RulePlace}
use Rattle.net_types.specs.Rules.{numbered}
use Rattle.net_types.specs.Tables.{at_places}
use Rattle.net_types.proofs.Lookups.{get-map, got_item}
use Rattle.net_types.proofs.Placed.{get-at_places}
use Rattle.net_types.proofs.network.Network.rule_at.Goals as goal

pub returns-in_err-row : goal.returns-in_err-row
returns-in_err-row c =
    let got : option_copied c.get.result ≡ slice_get c.deref.result.now c.args.i = got_item _ _ _ c.get.ensures.lookup in
    let row = sym (ap option_copied c.in_err-row.was) ∙ got ∙ ap (λ l. slice_get l c.args.i) c.deref.ensures.value in
    rw (c.from_residual.ensures, ← c.self.view_is)
    (ap (option_map numbered) (ap (option_and_then (λ (row : RulePlace). slice_get c.self.inside.rules.items row.place)) row ∙ sym (get-at_places c.self.inside.rules.items c.self.inside.places.items c.args.i c.self.invariant.placed))
    ∙ sym (get-map numbered (at_places c.self.inside.rules.items c.self.inside.places.items) c.args.i))

pub returns : goal.returns
returns c =
    let got : option_copied c.get.result ≡ slice_get c.deref.result.now c.args.i = got_item _ _ _ c.get.ensures.lookup in
    let row = sym (ap option_copied c.in_ok-row.was) ∙ got ∙ ap (λ l. slice_get l c.args.i) c.deref.ensures.value in
    let rule : option_copied c.get-2.result ≡ slice_get c.deref-2.result.now c.in_ok-row.row.now.place = got_item _ _ _ c.get-2.ensures.lookup in
    rw (← c.self.view_is)
    (ap (option_map numbered) (rule ∙ ap (λ l. slice_get l c.in_ok-row.row.now.place) c.deref-2.ensures.value
    ∙ ap (option_and_then (λ (row : RulePlace). slice_get c.self.inside.rules.items row.place)) row ∙ sym (get-at_places c.self.inside.rules.items c.self.inside.places.items c.args.i c.self.invariant.placed))
    ∙ sym (get-map numbered (at_places c.self.inside.rules.items c.self.inside.places.items) c.args.i))
