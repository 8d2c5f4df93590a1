use Rattle.std.proofs.Common.{◌≡◌, sym, ap, ◌∙◌}
use Rattle.network_model.specs.Network.{Network}
use Rattle.net_types.proofs.Fits.{fits_from_tests}
use Rattle.net_types.specs.Rules.{model_of}
use Rattle.net_types.proofs.network.Network.add_rule.Goals as goal

-- the tests were passed
pub put_rule-requires-clause-fits : goal.put_rule-requires-clause-fits
put_rule-requires-clause-fits c =
    let width : c.self.inside.parts.bits ≡ c.args.self.now.width = ap (λ (net : Network). net.width) c.self.view_is in
    fits_from_tests c.args.self.now (model_of c.args.rule)
    (sym c.has_places.ensures ∙ c.if-not-has_places.false) (rw width at (sym c.is_as_wide.ensures.wide ∙ c.if-not-is_as_wide.false)) (rw width at (c.is_as_wide.ensures.within c.if-not-is_as_wide.false))
