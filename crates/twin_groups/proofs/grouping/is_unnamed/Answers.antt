use Rattle.std.proofs.Common.{arith}
use Rattle.twin_groups.proofs.Openings.{none_names}
use Rattle.twin_groups.proofs.grouping.is_unnamed.Goals as goal

pub returns : goal.returns
returns c holds =
    let all = c.rules_at-rule-items.ensures.all in
    none_names c.args.net.now c.args.at c.args.port c.rules_at-rule-items.result.now (λ r there at. (all r).1 (there, at))
    (λ k d below. c.loop-rule.invariant k d (omega (arith, below, c.loop-rule-test.false)))
