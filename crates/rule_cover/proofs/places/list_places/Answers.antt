use Rattle.std.proofs.Common.{sym, subst}
use Rattle.std.specs.List.{Contains}
use Rattle.std.proofs.lemmas.List.{get_or_read}
use Rattle.rule_cover.proofs.places.list_places.Goals as goal

pub add_rule-requires-clause-among : goal.add_rule-requires-clause-among
add_rule-requires-clause-among c =
    let i = c.loop-rule.rule-index in
    subst (Contains c.args.numbers.now) (sym (get_or_read c.args.rules.now i c.rule-item.result c.loop-rule-test.true c.rule-item.is 0)) (c.requires.among i c.loop-rule-test.true)
