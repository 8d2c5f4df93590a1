use Rattle.pattern_index.proofs.Looking.{Looked}
use Rattle.pattern_index.proofs.index.PatternIndex.add_meeting.Given as goal

-- the entries behind are looked at
abbrev pub invariant-loop-left : goal.invariant-loop-left
invariant-loop-left l = Looked l.self.entries l.p l.fn.places.items l.places.items l.left

abbrev pub decreases-loop-left : goal.decreases-loop-left
decreases-loop-left l = l.left
