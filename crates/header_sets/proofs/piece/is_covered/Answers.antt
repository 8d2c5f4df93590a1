use Rattle.std.proofs.Common.{refl}
use Rattle.header_sets.proofs.Searching.{left_none}
use Rattle.header_sets.proofs.piece.is_covered.Goals as goal

pub returns-then-is_within : goal.returns-then-is_within
returns-then-is_within c =
    left_none c.args.pattern.now c.other-item.result c.args.others.now c.loop-other.other-index c.loop-other-test.true c.other-item.is (c.if-is_within.ensures.0 refl).meeting (c.if-is_within.ensures.0 refl).asked
