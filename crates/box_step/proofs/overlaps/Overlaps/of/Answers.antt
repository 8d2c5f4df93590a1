use Rattle.std.proofs.Common.{◌≤◌, ◌∙◌, List, length, map, sym, ap, arith}
use Rattle.std.specs.Option.{option_copied, option_map}
use Rattle.std.proofs.lemmas.List.{take_all}
use Rattle.network_model.specs.Network.{Numbered}
use Rattle.net_types.specs.Rules.{numbered}
use Rattle.box_step.specs.declared.lists.Listed.{Listed}
use Rattle.box_step.proofs.Listing.{list_pair, pair_of, pairs_more, none_past}
use Rattle.box_step.proofs.overlaps.Overlaps.of.Goals as goal
use Rattle.box_step.proofs.overlaps.Overlaps.of.Goals.{in-Some+in_ok-list_of+in_ok-push, in_default}

pub loop-place-preserved : goal.loop-place-preserved
loop-place-preserved c =
    elim c.match-rule_at.branch [
      | in-Some+in_ok-list_of+in_ok-push w ↦
          rw (w.rows-is, w.in_ok-push.ensures.items)
          (pairs_more c.args.net.now c.loop-place.rows.items c.loop-place.place (numbered w.in-Some.rule.now) w.in_ok-list_of.field-0 (sym w.in-Some.ensures)
          w.in_ok-list_of.ensures.rule w.in_ok-list_of.ensures.preceding c.loop-place.invariant)
      | in_default w ↦
          let past : length c.args.net.now.rules ≤ c.loop-place.place = none_past c.args.net.now.rules c.loop-place.place
          (sym c.rule_at.ensures ∙ ap (λ r. option_map numbered (option_copied r)) w.in_default.is) in
          absurd (omega (arith, past, c.rule_count-place-end.ensures.count, c.loop-place-test.true))
    ]

pub returns : goal.returns
returns c = record {
  lists = ap (λ (rows : List Listed). map list_pair rows) c.sorted.ensures ∙ c.loop-place.invariant ∙ ap (λ (rs : List Numbered). map (pair_of c.args.net.now) rs)
      (take_all c.loop-place.place c.args.net.now.rules (omega (arith, c.rule_count-place-end.ensures.count, c.loop-place-test.false)));
  guides = c.in_ok-guides.ensures;
}
