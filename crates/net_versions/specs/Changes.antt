-- Changes of a network's rules.
--     change_refusal    why a network doesn't take a change; none where it does
--     changed           the network after one that it takes
use Rattle.std.specs.Prelude.{is_none, [], ◌∷◌, Option}
use Rattle.network_model.specs.Network.{value_at, Network}
use Rattle.network_model.specs.Building.{with_rule, without_rule}
use Rattle.net_types.specs.Refusals.{Refusal, Unknown, first_of, rule_refusal}
use Rattle.net_types.specs.Rules.{model_of}
use Rattle.net_versions.specs.declared.change.Change.{Change}
use Rattle.net_versions.specs.declared.change.Change.TheVariants.{Add, Cut}

abbrev pub change_refusal : Network → Change → Option Refusal
change_refusal net (Add rule) = rule_refusal net rule.id (model_of rule)
change_refusal net (Cut id) = first_of ((is_none (value_at net.rules id), Unknown) ∷ [])

abbrev pub changed : Network → Change → Network
changed net (Add rule) = with_rule rule.id (model_of rule) net
changed net (Cut id) = without_rule id net
