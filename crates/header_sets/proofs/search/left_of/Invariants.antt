use Rattle.std.proofs.Common.{take}
use Rattle.header_sets.proofs.Searching.{SoFar}
use Rattle.header_sets.proofs.search.left_of.Given as goal

abbrev pub invariant-loop-other : goal.invariant-loop-other
invariant-loop-other l = SoFar l.pattern (take l.other-index l.others) l.asked
