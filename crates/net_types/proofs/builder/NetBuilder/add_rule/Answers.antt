use Rattle.std.proofs.Common.{◌≡◌, ◌∙◌, sym, ap, arith, refl}
use Rattle.network_model.specs.Network.{Network}
use Rattle.net_types.proofs.Steps.{rule_shown, rule_built}
use Rattle.net_types.proofs.builder.NetBuilder.add_rule.Goals as goal

pub invariant_of-self-2 : goal.invariant_of-self-2
invariant_of-self-2 c =
    let width : c.self.inside.bits ≡ c.args.self.now.width = ap (λ (net : Network). net.width) c.self.view_is in
    rule_built c.self.inside _ c.args.rule.id c.args.rule c.insert.new.self c.self.view_is (sym c.has_rule.ensures ∙ c.if-has_rule.false)
    c.in_ok-insert.ensures.entries (sym c.has_places.ensures ∙ c.if-not-has_places.false)
    (rw width at (sym c.is_as_wide.ensures.wide ∙ c.if-not-is_as_wide.false)) (rw width at (c.is_as_wide.ensures.within c.if-not-is_as_wide.false)) refl (omega arith) c.self.invariant

pub returns-clause-ok : goal.returns-clause-ok
returns-clause-ok c =
    rule_shown c.self.inside _ c.args.rule.id c.args.rule c.insert.new.self c.self.view_is (sym c.has_rule.ensures ∙ c.if-has_rule.false)
    c.in_ok-insert.ensures.entries
