use Rattle.std.proofs.Common.{◌≡◌, ◌≤◌, ◌+◌, ◌∙◌, ℕ, List, length, map, sym, ap, refl, arith}
use Rattle.std.specs.Option.{option_copied, option_map}
use Rattle.net_types.specs.Rules.{numbered}
use Rattle.box_step.specs.Overlaps.{preceding_of, pair_count}
use Rattle.box_step.proofs.Listing.{pair_of, pairs_more, members, members_more, members_part, none_past}
use Rattle.box_step.proofs.overlaps.Overlaps.at_most.Goals as goal
use Rattle.box_step.proofs.overlaps.Overlaps.at_most.Goals.{in-Some+in_ok-list+else-members-left+in_ok-push, in_default}

pub returns-then-members-left-clause-none : goal.returns-then-members-left-clause-none
returns-then-members-left-clause-none c =
    let net = c.args.net.now in
    let rule = numbered c.in-Some.rule.now in
    let more = members_more net c.loop-place.place rule (sym c.in-Some.ensures) in
    let part = members_part net (c.loop-place.place + 1) in
    let size : c.len-members.result ≡ length (preceding_of net rule) = c.len-members.ensures ∙ ap (λ (ns : List ℕ). length ns) c.in_ok-list.ensures.preceding in
    let all : pair_count net ≡ members (map (pair_of net) net.rules) = refl in
    omega (arith, more, part, size, all, c.loop-place.invariant.left, c.if-members-left.true)

pub loop-place-preserved : goal.loop-place-preserved
loop-place-preserved c =
    elim c.match-rule_at.branch [
      | in-Some+in_ok-list+else-members-left+in_ok-push w ↦
          let net = c.args.net.now in
          let rule = numbered w.in-Some.rule.now in
          let more = members_more net c.loop-place.place rule (sym w.in-Some.ensures) in
          let size : w.len-members.result ≡ length (preceding_of net rule) = w.len-members.ensures ∙ ap (λ (ns : List ℕ). length ns) w.in_ok-list.ensures.preceding in
          rw (w.rows-is, w.left-is, w.in_ok-push.ensures.items)
          (record {
            lists = pairs_more net c.loop-place.rows.items c.loop-place.place rule w.in_ok-list.list (sym w.in-Some.ensures)
                w.in_ok-list.ensures.rule w.in_ok-list.ensures.preceding c.loop-place.invariant.lists;
            left = omega (arith, more, size, c.loop-place.invariant.left, w.if-members-left.false);
          })
      | in_default w ↦
          let past : length c.args.net.now.rules ≤ c.loop-place.place = none_past c.args.net.now.rules c.loop-place.place
          (sym c.rule_at.ensures ∙ ap (λ r. option_map numbered (option_copied r)) w.in_default.is) in
          absurd (omega (arith, past, c.rule_count-place-end.ensures.count, c.loop-place-test.true))
    ]
