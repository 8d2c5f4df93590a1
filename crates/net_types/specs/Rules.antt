-- Rules of the code as rules of the model.
--     numbered       a rule with its number
--     rule_with      what is at a number, with that number
--     IsAsWide       what a rule does is so wide
--     TakesWithin    what a rule does takes no bit from past a width
use Rattle.std.specs.Prelude.{◌≡◌, ℕ, length, Option, None, Some}
use Rattle.net_types.specs.declared.rule.InPort.{InPort}
use Rattle.net_types.specs.declared.rule.InPort.TheVariants.{Any, One}
use Rattle.net_types.specs.declared.rule.Action.{Action}
use Rattle.net_types.specs.declared.rule.Action.TheVariants.{Drop, Out}
use Rattle.net_types.specs.declared.rule.Rule.{Rule}
use Rattle.network_model.specs.Network as model
use Rattle.network_model.specs.Rewrites.{AreWithin}

abbrev pub in_port : InPort → model.InPort
in_port Any = model.AnyPort
in_port (One port) = model.OnePort port

abbrev pub action : Action → model.Action
action Drop = model.Drop
action (Out port rewrite) = model.Out port rewrite

abbrev pub model_of : Rule → model.Rule
model_of rule = record { at = rule.«at»; priority = rule.priority; inp = in_port rule.inp; pattern = rule.pattern; action = action rule.action }

abbrev pub numbered : Rule → model.Numbered
numbered rule = (rule.id, model_of rule)

abbrev pub rule_with : ℕ → Option model.Rule → Option model.Numbered
rule_with id None = None
rule_with id (Some rule) = Some (id, rule)

abbrev pub IsAsWide : ℕ → model.Action → Type 0
IsAsWide width model.Drop = Unit {0}
IsAsWide width (model.Out port rewrite) = length rewrite ≡ width

abbrev pub TakesWithin : ℕ → model.Action → Type 0
TakesWithin width model.Drop = Unit {0}
TakesWithin width (model.Out port rewrite) = AreWithin width rewrite
