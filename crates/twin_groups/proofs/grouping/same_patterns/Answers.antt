use Rattle.std.proofs.Common.{arith}
use Rattle.std.proofs.lemmas.List.{same_lists}
use Rattle.twin_groups.proofs.grouping.same_patterns.Goals as goal

pub returns : goal.returns
returns c holds = same_lists c.args.a.now c.args.b.now (omega arith) (λ k d below. c.loop-i.invariant k d (omega arith))
