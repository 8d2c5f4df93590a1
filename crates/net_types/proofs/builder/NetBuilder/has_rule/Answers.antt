use Rattle.std.proofs.Common.{◌∙◌, sym}
use Rattle.net_types.specs.Rules.{model_of}
use Rattle.net_types.proofs.Maps.{lookup_in}
use Rattle.net_types.proofs.builder.NetBuilder.has_rule.Goals as goal

pub returns : goal.returns
returns c = rw (← c.self.view_is) (c.contains_key.ensures ∙ sym (lookup_in model_of c.self.inside.rules.entries c.args.id))
