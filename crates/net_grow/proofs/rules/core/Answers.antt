use Rattle.std.proofs.Common.{sym, subst, ap, ◌∙◌}
use Rattle.network_model.specs.Network.{Numbered, AnyPort}
use Rattle.net_types.specs.Rules.{action}
use Rattle.ternary_bits.specs.Words.{header_of}
use Rattle.net_grow.specs.Adding.{Fits}
use Rattle.net_grow.specs.Rules.{beginning}
use Rattle.net_grow.proofs.Made.{rule_of, core_made, core_fits}
use Rattle.net_grow.proofs.rules.core.Goals as goal

pub returns-clause-rule : goal.returns-clause-rule
returns-clause-rule c =
    (λ i. rule_of (c.of.ensures i) (c.of-2.ensures i) 10 AnyPort c.beginning.result (action c.through.result))
    ∙ core_made c.args.edge c.beginning.result (action c.through.result) (c.beginning.ensures ∙ ap (λ n. beginning (header_of 4 n)) c.from.ensures) c.through.ensures

pub returns-clause-fits : goal.returns-clause-fits
returns-clause-fits c = let AllFit : Numbered → Type 0 = λ (r : Numbered). Fits r.1 in subst AllFit (sym (returns-clause-rule c)) (core_fits c.args.edge c.requires)
