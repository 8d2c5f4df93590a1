use Rattle.std.proofs.Common.{◌≡◌, Some, map, sym, ap, ◌∙◌, arith}
use Rattle.std.specs.List.{slice_get}
use Rattle.std.specs.Option.{option_map, option_copied}
use Rattle.net_types.specs.Rules.{numbered}
use Rattle.net_text.proofs.Appending.{Appending-step, Appending-ended}
use Rattle.net_text.proofs.Parted.{rule_declared}
use Rattle.net_text.proofs.printing.put_rules.Goals as goal

pub loop-place-preserved : goal.loop-place-preserved
loop-place-preserved c =
    let rules = c.args.net.now.rules in
    let rule = numbered c.unwrap.result.now in
    let found : slice_get rules c.loop-place.place ≡ Some rule = sym c.rule_at.ensures ∙ ap (λ o. option_map numbered (option_copied o)) c.unwrap.ensures in
    Appending-step rule_declared rules c.loop-place.place rule c.args.text.now.items (map rule_declared rules) _ _ found c.loop-place.invariant c.in_ok-put_rule.ensures

pub returns : goal.returns
returns c =
    let rules = c.args.net.now.rules in
    Appending-ended rule_declared rules c.loop-place.place c.args.text.now.items (map rule_declared rules) c.loop-place.text.items (omega (arith, c.rule_count-place-end.ensures.count)) c.loop-place.invariant
