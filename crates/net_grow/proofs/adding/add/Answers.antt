use Rattle.std.proofs.Common.{◌≡◌, ◌+◌, ◌∷◌, ◌++◌, [], subst}
use Rattle.network_model.specs.Building.{with_rule}
use Rattle.net_types.specs.Refusals.{Answers}
use Rattle.net_types.specs.Rules.{model_of, numbered}
use Rattle.net_grow.specs.Adding.{TakesFrom}
use Rattle.net_grow.proofs.Answers.{taken_then}
use Rattle.net_grow.proofs.Taking.{rule_taken, rules_added, takes_next}
use Rattle.net_grow.proofs.adding.add.Goals as goal

pub taken-requires : goal.taken-requires
taken-requires c =
    subst (λ due. Answers c.add_rule.result due)
    (rule_taken c.args.net.now c.args.rule.id (model_of c.args.rule) c.requires.takes c.requires.number c.requires.fits) c.add_rule.ensures.answer

pub returns-clause-rules : goal.returns-clause-rules
returns-clause-rules c =
    taken_then (c.add_rule.new.self ≡ with_rule c.args.rule.id (model_of c.args.rule) c.args.net.now)
    (c.add_rule.new.self.rules ≡ c.args.net.now.rules ++ numbered c.args.rule ∷ []) c.add_rule.result c.taken.result c.taken.ensures c.add_rule.ensures.ok
    (rules_added c.args.net.now c.add_rule.new.self c.args.rule.id (model_of c.args.rule) c.requires.takes)

pub returns-clause-takes : goal.returns-clause-takes
returns-clause-takes c =
    taken_then (c.add_rule.new.self ≡ with_rule c.args.rule.id (model_of c.args.rule) c.args.net.now)
    (TakesFrom c.add_rule.new.self (c.args.rule.id + 1)) c.add_rule.result c.taken.result c.taken.ensures c.add_rule.ensures.ok
    (takes_next c.args.net.now c.add_rule.new.self c.args.rule.id (model_of c.args.rule) c.requires.takes)
