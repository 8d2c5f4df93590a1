use Rattle.std.proofs.Common.{sym, subst, ◌∙◌}
use Rattle.network_model.specs.Network.{Numbered, OnePort}
use Rattle.net_types.specs.Rules.{action}
use Rattle.net_grow.specs.Adding.{Fits}
use Rattle.net_grow.proofs.Made.{rule_of, outward_last_made, outward_last_fits}
use Rattle.net_grow.proofs.rules.outward_last.Goals as goal

pub returns-clause-rule : goal.returns-clause-rule
returns-clause-rule c =
    (λ i. rule_of (c.of.ensures i) (c.of-2.ensures i) 0 (OnePort (c.of-3.ensures i)) c.any_header.result (action c.through.result))
    ∙ outward_last_made c.args.edge c.any_header.result (action c.through.result) c.any_header.ensures c.through.ensures

pub returns-clause-fits : goal.returns-clause-fits
returns-clause-fits c = let AllFit : Numbered → Type 0 = λ (r : Numbered). Fits r.1 in subst AllFit (sym (returns-clause-rule c)) (outward_last_fits c.args.edge c.requires)
