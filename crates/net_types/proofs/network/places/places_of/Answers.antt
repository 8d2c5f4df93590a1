use Rattle.std.proofs.Common.{sym, ap, ◌∙◌, ◌++◌, [], ◌∷◌, take}
use Rattle.std.proofs.lemmas.List.{take_all, take_more}
use Rattle.std.proofs.lemmas.List.Elements.{All-push, filter_map-append}
use Rattle.net_types.specs.Tables.{IsPlaced}
use Rattle.net_types.proofs.network.places.places_of.Goals as goal

pub loop-rule-preserved : goal.loop-rule-preserved
loop-rule-preserved c = record {
  placed = rw c.in_ok-push.ensures.items (All-push (IsPlaced c.args.ordered.now) c.loop-rule.places.items c.place_among.result c.loop-rule.invariant.placed c.place_among.ensures.placed);
  rules = rw (c.in_ok-push.ensures.items, filter_map-append, c.loop-rule.invariant.rules, c.place_among.ensures.rule) (ap (λ r. take c.loop-rule.rule-index c.args.rules.now ++ r ∷ []) c.rule-item.is ∙ sym (take_more c.args.rules.now c.loop-rule.rule-index c.rule-item.result c.loop-rule-test.true));
}

pub returns : goal.returns
returns c = record {
  placed = c.loop-rule.invariant.placed;
  rules = c.loop-rule.invariant.rules ∙ take_all c.loop-rule.rule-index c.args.rules.now c.loop-rule-test.false;
}

pub place_among-requires-clause-there : goal.place_among-requires-clause-there
place_among-requires-clause-there c = rw c.rule-item.is (c.requires.there c.loop-rule.rule-index c.rule-item.result c.loop-rule-test.true)
